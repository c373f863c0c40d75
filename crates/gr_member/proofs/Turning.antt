-- What one turn leaves of a seat with its eye.
use Rattle.std.proofs.Common.{◌≡◌, ℕ, ◌+◌, ◌-◌, List, [], ◌∷◌, ◌++◌, length, reverse, Option, Some, refl, sym, ap, ◌∙◌, subst, arith}
use Rattle.std.proofs.Common.{length-append, append-nil, Bool, true, false, cond}
use Rattle.std.specs.Prelude.{Result, Ok, Err, OnErr}
use Rattle.std.proofs.Math.Dec.{leb}
use Rattle.std.proofs.lemmas.List.{length-reverse}
use Rattle.gr_peek_law.proofs.Shown.{count}
use Rattle.gr_history.specs.declared.deed.Deed.{Deed}
use Rattle.gr_oql.specs.declared.event.Turned.{Turned}
use Rattle.gr_peek.specs.Entering.{Follows}
use Rattle.gr_peek.specs.Views.{Watching}
use Rattle.gr_peek_law.specs.Turns.{turned_each}
use Rattle.gr_shard.specs.declared.next.Came.{Came}
use Rattle.gr_shard.specs.declared.next.Next.{Next}
use Rattle.gr_turn.specs.declared.view.View.{View}
use Rattle.gr_turn.specs.Views.{Seated, Turned as TurnOut, IsAccounted, both, count_from, found, left_by, longer, won_by, with_lost}
use Rattle.gr_value.specs.Lists.{StartsWith}
use Rattle.gr_member.specs.declared.replica.Origin.{Origin}
use Rattle.gr_member.specs.Replicas.{Replicated, Does, Watched, IsWatchOf}
use Rattle.gr_member.specs.Seats.{Place, placed, seat_in, is_there, Stays, Looks, LooksUp, AddsBehind, Acts, Meets}

one_more : {E : Type 0} (xs : List E) (d : E) → length (xs ++ d ∷ []) - length xs ≡ 1
one_more xs d = let l = length-append xs (d ∷ []) in omega arith

none_more : {E : Type 0} (xs : List E) → length xs - length xs ≡ 0
none_more xs = omega arith

-- the note of a turn is of the seat's copy
pub turn_copy : (s : Seated Deed Origin) (x z : Replicated) (watch : Watched) → s.view.base ≡ Some x.origin → IsWatchOf s.view watch
    → z.origin ≡ x.origin → z.origin.copy ≡ watch.eye.copy
turn_copy s x z watch b h e = ap (λ (o : Origin). o.copy) e ∙ h.copied x.origin b

-- a turn that is out
abbrev pub Out : Type 0
Out = TurnOut Replicated Deed Origin

-- One turn of the seat s: it was out as o, and was given back with the value z.
pub record Turns (s t : Seated Deed Origin) (o : Out) (z : Replicated) : Type 0 where
  pub its : o.lock ≡ s.lock
  pub won : o.view ≡ won_by (with_lost s.view o.view.lost o.view.word) o.value.deeds
  pub based : s.view.base ≡ Some o.value.origin
  pub known : StartsWith o.value.deeds s.view.seen
  pub back : t.lock ≡ o.lock
  pub left : t.view ≡ left_by o.view z.deeds

-- the turn, by what entering and leaving say
pub turned_by : (s t : Seated Deed Origin) (o : Out) (z : Replicated) → o.lock ≡ s.lock
    → o.view ≡ won_by (with_lost s.view o.view.lost o.view.word) o.value.deeds → s.view.base ≡ Some o.value.origin
    → StartsWith o.value.deeds s.view.seen → t.lock ≡ o.lock → t.view ≡ left_by o.view z.deeds → Turns s t o z
turned_by s t o z i w b k l v = record { its = i; won = w; based = b; known = k; back = l; left = v }

module _ (s t : Seated Deed Origin) (o : Out) (z : Replicated) (turns : Turns s t o z) where
  -- the view afterwards, by the view before
  left_is : t.view ≡ left_by (won_by (with_lost s.view o.view.lost o.view.word) o.value.deeds) z.deeds
  left_is = turns.left ∙ ap (λ (v : View Deed Origin). left_by v z.deeds) turns.won

  pub turn_stays : (eye after : Watching) → Follows eye after → Stays (placed s eye) (placed t after)
  turn_stays eye after f = record {
    its = turns.back ∙ turns.its;
    based = ap (λ (v : View Deed Origin). v.base) left_is;
    counted = ap (λ (v : View Deed Origin). v.seats) left_is;
    began = ap (λ (v : View Deed Origin). v.opening) left_is;
    numbers = ap (λ (v : View Deed Origin). v.parts) left_is;
    watches = f;
  }

  pub turn_won : t.view.won ≡ s.view.won + 1
  turn_won = ap (λ (v : View Deed Origin). v.won) left_is

  pub turn_seen : t.view.seen ≡ z.deeds
  turn_seen = ap (λ (v : View Deed Origin). v.seen) left_is

  -- a turn in which no deed was added
  pub turn_looks : (eye after : Watching) → Follows eye after → z.deeds ≡ o.value.deeds → Looks (placed s eye) (placed t after)
  turn_looks eye after f e = record {
    stays = turn_stays eye after f;
    seen = subst (λ (l : List Deed). StartsWith l s.view.seen) (sym (ap (λ (v : View Deed Origin). v.seen) left_is ∙ e)) turns.known;
    made = ap (λ (v : View Deed Origin). v.made) left_is
        ∙ ap (λ (list : List Deed). s.view.made ++ count_from (length o.value.deeds) (length list - length o.value.deeds)) e
        ∙ ap (λ (n : ℕ). s.view.made ++ count_from (length o.value.deeds) n) (none_more o.value.deeds)
        ∙ append-nil s.view.made;
    won = let w = turn_won in omega arith;
  }

  -- a turn in which the eye went to all that is published
  pub turn_up : (eye after : Watching) → Follows eye after → z.deeds ≡ o.value.deeds → after.known ≡ turned_each (reverse z.deeds)
      → LooksUp (placed s eye) (placed t after)
  turn_up eye after f e k = record {
    looks = turn_looks eye after f e;
    known = k ∙ ap (λ (l : List Deed). turned_each (reverse l)) (sym turn_seen);
  }

  -- a turn in which one deed was added
  turn_adds : (d : Deed) (eye after : Watching) → Follows eye after → z.deeds ≡ o.value.deeds ++ d ∷ []
      → AddsBehind o.value.deeds (placed s eye) d (placed t after)
  turn_adds d eye after f e = record {
    stays = turn_stays eye after f;
    known = turns.known;
    seen = ap (λ (v : View Deed Origin). v.seen) left_is ∙ e;
    made = ap (λ (v : View Deed Origin). v.made) left_is
        ∙ ap (λ (list : List Deed). s.view.made ++ count_from (length o.value.deeds) (length list - length o.value.deeds)) e
        ∙ ap (λ (n : ℕ). s.view.made ++ count_from (length o.value.deeds) n) (one_more o.value.deeds d);
  }

  pub turn_acts : (to_do : Next) (came : Came) (eye after : Watching) → Follows eye after → Does o.value to_do came z
      → Acts (placed s eye) to_do came (placed t after)
  turn_acts to_do came eye after f d = record {
    origin = o.value.origin;
    based = turns.based;
    before = o.value.deeds;
    deed = d.deed;
    adds = turn_adds d.deed eye after f d.added;
    gives = d.gives;
    named = d.named;
  }

  -- the note of the turn was kept
  pub turn_kept : (old new : Watched) → IsWatchOf s.view old → new.noted ≡ turned_each (reverse z.deeds) → Follows old.eye new.eye
      → IsWatchOf t.view new
  turn_kept old new h n f = record {
    copied = λ p e. h.copied p (sym (ap (λ (v : View Deed Origin). v.base) left_is) ∙ e) ∙ sym f.copy_is;
    noted = n ∙ ap (λ (l : List Deed). turned_each (reverse l)) (sym (ap (λ (v : View Deed Origin). v.seen) left_is));
  }

-- the seat that was taken out is the one that the pass showed
pub seat_is : (o r : Option (Seated Deed Origin)) (s : Seated Deed Origin) → r ≡ Some s → r ≡ o → seat_in o ≡ s
seat_is o r s a b = ap seat_in (sym b ∙ a)

-- so what was noted of it is what it has seen
pub watch_is : (o r : Option (Seated Deed Origin)) (s : Seated Deed Origin) (watch : Watched) → r ≡ Some s → r ≡ o
    → (is_there o ≡ true) × IsWatchOf (seat_in o).view watch → IsWatchOf s.view watch
watch_is o r s watch a b w = subst (λ (x : Seated Deed Origin). IsWatchOf x.view watch) (seat_is o r s a b) w.1

pub place_is : (o r : Option (Seated Deed Origin)) (s : Seated Deed Origin) (eye : Watching) (self : Place) → r ≡ Some s → r ≡ o
    → placed (seat_in o) eye ≡ self → placed s eye ≡ self
place_is o r s eye self a b e = ap (λ (x : Seated Deed Origin). placed x eye) (sym (seat_is o r s a b)) ∙ e

-- the seat is put back
pub put_back : (P : Seated Deed Origin → Type 0) (o : Option (Seated Deed Origin)) (t : Seated Deed Origin) → o ≡ Some t → P t
    → P (seat_in o)
put_back P o t e h = subst (λ (x : Option (Seated Deed Origin)). P (seat_in x)) (sym e) h

-- a list that was found begins with itself
pub same_list : (view old : View Deed Origin) (l : List Deed) → view ≡ won_by old l → StartsWith l (found view)
same_list view old l e = ([], sym (append-nil l) ∙ ap (λ (v : View Deed Origin). found v ++ []) (sym e))

pub err_weaker : {X Y : Type 0} (r : Result X Y) (P Q : Type 0) → (P → Q) → OnErr r P → OnErr r Q
err_weaker (Ok x) P Q f p = p
err_weaker (Err y) P Q f p = f p

-- what is there is put back
pub there_again : (o : Option (Seated Deed Origin)) (t : Seated Deed Origin) → o ≡ Some t → is_there o ≡ true
there_again o t e = ap is_there e

-- ---- the meeting of two seats

cond_of : {A B : Type 0} (f : A → B) (b : Bool) (x y : A) → cond b (f x) (f y) ≡ f (cond b x y)
cond_of f true x y = refl
cond_of f false x y = refl

as_long : (l : List Deed) → length (turned_each (reverse l)) ≡ length l
as_long l = count (reverse l) ∙ length-reverse l

-- the longer note is that of the longer list
longer_note : (xs ys : List Deed) → longer (turned_each (reverse xs)) (turned_each (reverse ys)) ≡ turned_each (reverse (longer xs ys))
longer_note xs ys =
    ap (λ (n : ℕ). cond (leb n (length (turned_each (reverse ys)))) (turned_each (reverse ys)) (turned_each (reverse xs))) (as_long xs)
    ∙ ap (λ (n : ℕ). cond (leb (length xs) n) (turned_each (reverse ys)) (turned_each (reverse xs))) (as_long ys)
    ∙ cond_of (λ (l : List Deed). turned_each (reverse l)) (leb (length xs) (length ys)) ys xs

pub seats_meet : (s r t : Seated Deed Origin) (eye other after : Watching) → t.lock ≡ s.lock → t.view ≡ both s.view r.view
    → IsAccounted t.view → StartsWith t.view.seen s.view.seen × StartsWith t.view.seen r.view.seen → Follows eye after
    → Meets (placed s eye) (placed r other) (placed t after)
seats_meet s r t eye other after l e a k f = record {
  its = l;
  based = ap (λ (v : View Deed Origin). v.base) e;
  counted = ap (λ (v : View Deed Origin). v.seats) e;
  began = ap (λ (v : View Deed Origin). v.opening) e;
  numbers = ap (λ (v : View Deed Origin). v.parts) e;
  made = ap (λ (v : View Deed Origin). v.made) e;
  first = k.0;
  second = k.1;
  once = a.0;
  all = a.1;
  watches = f;
}

pub watches_meet : (s r t : Seated Deed Origin) (one two after : Watched) → IsWatchOf s.view one → IsWatchOf r.view two
    → t.view ≡ both s.view r.view → after.noted ≡ longer one.noted two.noted → Follows one.eye after.eye → IsWatchOf t.view after
watches_meet s r t one two after h i e n f = record {
  copied = λ o b. h.copied o (sym (ap (λ (v : View Deed Origin). v.base) e) ∙ b) ∙ sym f.copy_is;
  noted = n ∙ ap (λ (l : List (List Turned)). longer l two.noted) h.noted
      ∙ ap (λ (l : List (List Turned)). longer (turned_each (reverse s.view.seen)) l) i.noted
      ∙ longer_note s.view.seen r.view.seen
      ∙ ap (λ (v : View Deed Origin). turned_each (reverse v.seen)) (sym e);
}
