-- Deeds that are added one after the other, and changes that are taken in.
use Rattle.std.proofs.Common.{◌≡◌, ℕ, ◌+◌, ◌<◌, ◌==◌, Bool, true, false, List, [], ◌∷◌, ◌++◌, length, get_or, take, if◌then◌else◌}
use Rattle.std.proofs.Common.{refl, sym, ap, ◌∙◌, subst, arith, append-nil}
use Rattle.std.specs.Prelude.{flat_map}
use Rattle.std.proofs.lemmas.Grind.{flat_map-append}
use Rattle.std.proofs.lemmas.List.{map-append, take_more}
use Rattle.gr_value.specs.Lists.{StartsWith}
use Rattle.gr_value.specs.Shard.{shard_of}
use Rattle.gr_stamp.specs.declared.change.Change.{Change}
use Rattle.gr_turn.specs.declared.view.View.{View}
use Rattle.gr_history.specs.declared.deed.Deed.{Deed}
use Rattle.gr_history.specs.declared.deed.Deed.TheVariants.{Taken}
use Rattle.gr_history.specs.declared.verdict.Verdict.{Verdict}
use Rattle.gr_run_law.specs.Threads.{deed_if}
use Rattle.gr_member.specs.declared.replica.Origin.{Origin}
use Rattle.gr_member.specs.Seats.{Place}
use Rattle.gr_member.specs.Passes.{AddsAt, StaysAll}
use Rattle.gr_member.proofs.Watching.{follows_same}
use Rattle.gr_session.specs.Steps.{AddsEach}
use Rattle.gr_session.proofs.Adding.{adds_at}
use Rattle.gr_host.specs.Joins.{TakesEach, taken_at}

-- It is the seat's view alone that tells where deeds are added.
each_view : (s r t : Place) (ds : List Deed) → AddsEach s ds t → r.view ≡ s.view → AddsEach r ds t
each_view s r t [] same e = same ∙ sym e
each_view s r t (deed ∷ ds) adds e =
    let u = adds.0 in
    let before = adds.1.0 in
    let one = adds.1.1 in
    let next : Place = record { lock = r.lock; view = u.view; eye = r.eye } in (
      next,
      (
        before,
        record {
          stays = record {
            its = refl;
            based = one.stays.based ∙ ap (λ (x : View Deed Origin). x.base) (sym e);
            counted = one.stays.counted ∙ ap (λ (x : View Deed Origin). x.seats) (sym e);
            began = one.stays.began ∙ ap (λ (x : View Deed Origin). x.opening) (sym e);
            numbers = one.stays.numbers ∙ ap (λ (x : View Deed Origin). x.parts) (sym e);
            watches = follows_same r.eye;
          };
          known = subst (λ (x : View Deed Origin). StartsWith before x.seen) (sym e) one.known;
          seen = one.seen;
          made = one.made ∙ ap (λ (x : View Deed Origin). x.made ++ length before ∷ []) (sym e);
        },
      ),
      each_view u next t ds adds.2 refl,
    )

pub each_both : (s m t : Place) (xs ys : List Deed) → AddsEach s xs m → AddsEach m ys t → AddsEach s (xs ++ ys) t
each_both s m t [] ys a b = each_view m s t ys b (sym a)
each_both s m t (deed ∷ xs) ys a b = (a.0, a.1, each_both a.0 m t xs ys a.2 b)

-- a deed at one shard, and none at the others
pub adds_where : (shard : ℕ) (p q : List Place) (deed : Deed) → AddsAt shard p deed q → (k : ℕ) (s : Place) → k < length p
    → AddsEach (get_or p k s) (deed_if (k == shard) deed) (get_or q k s)
adds_where shard p q deed a k s less =
    subst (λ (l : List Deed). AddsEach (get_or p k s) l (get_or q k s)) (same (k == shard)) (adds_at shard p q deed a k s less)
  where
    same : (b : Bool) → (if b then deed ∷ [] else []) ≡ deed_if b deed
    same true = refl
    same false = refl

-- ---- changes that are taken in

pub takes_none : (shards : ℕ) (p : List Place) → TakesEach shards [] p p
takes_none shards p = record { told = []; of_changes = refl; many = refl; adds = λ shard s less. refl }

pub takes_more : (shards : ℕ) (changes : List Change) (n : ℕ) (change : Change) (verdict : Verdict) (p m q : List Place)
    → n < length changes → change ≡ get_or changes n change → TakesEach shards (take n changes) p m
    → AddsAt (shard_of change.key shards) m (Taken change verdict) q → StaysAll m q → TakesEach shards (take (n + 1) changes) p q
takes_more shards changes n change verdict p m q less is h a stays = record {
  told = h.told ++ (change, verdict) ∷ [];
  of_changes = map-append (λ (one : Change × Verdict). one.0) h.told ((change, verdict) ∷ [])
      ∙ ap (λ (l : List Change). l ++ change ∷ []) h.of_changes
      ∙ ap (λ (c : Change). take n changes ++ c ∷ []) is
      ∙ sym (take_more changes n change less);
  many = stays.many ∙ h.many;
  adds = λ shard s below.
      let many = h.many in
      subst (λ (l : List Deed). AddsEach (get_or p shard s) l (get_or q shard s))
      (sym (flat_map-append (taken_at shards shard) h.told ((change, verdict) ∷ [])))
      (each_both (get_or p shard s) (get_or m shard s) (get_or q shard s) (flat_map (taken_at shards shard) h.told)
      (flat_map (taken_at shards shard) ((change, verdict) ∷ [])) (h.adds shard s below)
      (subst (λ (l : List Deed). AddsEach (get_or m shard s) l (get_or q shard s))
      (sym (append-nil (deed_if (shard == shard_of change.key shards) (Taken change verdict))))
      (adds_where (shard_of change.key shards) m q (Taken change verdict) a shard s (omega arith))));
}
