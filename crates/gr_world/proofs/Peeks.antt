-- A peek sees a place of a history.
use Rattle.std.proofs.Common.{suc, ◌≡◌, ℕ, ◌≤◌, List, [], ◌∷◌, true, false, ◌&&◌, ◌==◌, refl, sym, ap, ◌∙◌, subst, inl, inr}
use Rattle.std.proofs.Common.{arith, length}
use Rattle.std.specs.Prelude.{nat_le}
use Rattle.std.proofs.lemmas.Bool.Decides.{nat_tests}
use Rattle.gr_value.specs.Shard.{shard_of}
use Rattle.gr_history.specs.declared.deed.Deed.{Deed}
use Rattle.gr_history.specs.Standing.{present}
use Rattle.gr_law.specs.Grids.{Among, Older, at_place}
use Rattle.gr_law.proofs.Made.{older_itself, older_trans}
use Rattle.gr_script.specs.declared.line.Line.{Line}
use Rattle.gr_script.specs.Rules.{Heading, IsHeading, home_of, AllStand}
use Rattle.gr_script.specs.Steps.{departed}
use Rattle.gr_world.specs.Events.{Event, Did, Peek, Peeked, Gathered, history}
use Rattle.gr_world.specs.Courses.{course}
use Rattle.gr_world.specs.Causes.{IsNextEvent, IsCausal}
use Rattle.gr_world.proofs.Events.{at_put}
use Rattle.gr_world.proofs.Causal.{course_causal}

-- A history at an earlier event is that history at an earlier place.
pub older_event : (i t : ℕ) (event : Event) (before : List Event) → Older (history i t before) (history i t (event ∷ before))
older_event i t (Did m s deed) before =
    at_put (Older (history i t before)) (t == s && i == m) deed (history i t before) (older_itself (history i t before)) (λ o. inr o)
older_event i t (Peeked client number peek) before = older_itself (history i t before)
older_event i t (Gathered client number replies) before = older_itself (history i t before)

pub older_length : (q h : List Deed) → Older q h → length q ≤ length h
older_length q [] o = rw o (omega arith)
older_length q (first ∷ past) (inl is) = rw is (omega arith)
older_length q (first ∷ past) (inr o) = let e = older_length q past o in omega (arith, e)

pub place_of : (q h : List Deed) → Older q h → at_place (length q) h ≡ q
place_of q [] o = sym o
place_of q (deed ∷ past) (inl is) = subst (λ z. at_place (length z) (deed ∷ past) ≡ z) (sym is) (rw (itself (length past)) refl)
  where
    itself : (n : ℕ) → nat_le (suc n) (suc n) ≡ true
    itself n = grind (arith, nat_tests)
place_of q (deed ∷ past) (inr o) = let short : nat_le (suc (length past)) (length q) ≡ false =
    over (length past) (length q) (older_length q past o) in rw short (place_of q past o)
  where
    over : (n k : ℕ) → k ≤ n → nat_le (suc n) k ≡ false
    over n k h = grind (arith, nat_tests)

-- what a peek saw is a place of the history
pub record IsSeen (heading : Heading) (course : List Event) (client : ℕ) (peek : Peek)
    (past : List Deed) : Type 0 where
  pub older : Older past (history (home_of heading client) (shard_of peek.key heading.shards) course)
  pub value_is : peek.value ≡ present peek.key past
  pub at_is : peek.at ≡ length past

pub seen_at : (heading : Heading) (gone : List ℕ) (course : List Event) → IsCausal heading gone course
    → (client number : ℕ) (peek : Peek)
    → Among (Peeked client number peek) course → (past : List Deed) × IsSeen heading course client peek past
seen_at heading gone [] h client number peek a = absurd a
seen_at heading gone (event ∷ before) h client number peek (inl is) =
    let next : IsNextEvent heading gone (Peeked client number peek) before = subst (λ e. IsNextEvent heading gone e before) (sym is) h.0 in (
      history (home_of heading client) (shard_of peek.key heading.shards) before,
      record {
        older = older_event (home_of heading client) (shard_of peek.key heading.shards) event before;
        value_is = next.0;
        at_is = next.1;
      },
    )
seen_at heading gone (event ∷ before) h client number peek (inr a) =
    let earlier = seen_at heading gone before h.1 client number peek a in (
      earlier.0,
      record {
        older = older_trans earlier.0 _ _ earlier.1.older
            (older_event (home_of heading client) (shard_of peek.key heading.shards) event before);
        value_is = earlier.1.value_is;
        at_is = earlier.1.at_is;
      },
    )

-- what a peek tells is present at a place of the history
pub record IsPlace (heading : Heading) (course : List Event) (client : ℕ) (peek : Peek) : Type 0 where
  pub value_is : peek.value ≡ present peek.key (at_place peek.at (history (home_of heading client) (shard_of peek.key heading.shards) course))
  pub within : peek.at ≤ length (history (home_of heading client) (shard_of peek.key heading.shards) course)

-- Each peek was answered what is present at the place that it names, in the history as it is in the end.
pub peeks_stand : (heading : Heading) (past : List Line) → IsHeading heading → AllStand heading past
    → (client number : ℕ) (peek : Peek)
    → Among (Peeked client number peek) (course heading past) → IsPlace heading (course heading past) client peek
peeks_stand heading past is_heading stand client number peek a =
    let now : List Deed = history (home_of heading client) (shard_of peek.key heading.shards) (course heading past) in
    let found = seen_at heading (departed past) (course heading past) (course_causal heading past is_heading stand) client number peek a in
    record {
      value_is = found.1.value_is ∙ ap (present peek.key) (sym (ap (λ n. at_place n now) found.1.at_is ∙ place_of found.0 now found.1.older));
      within = let l : length found.0 ≤ length now = older_length found.0 now found.1.older in omega (arith, l, found.1.at_is);
    }
