-- What stands at the places of passes.
use Rattle.std.proofs.Common.{◌≡◌, ℕ, ◌<◌, ◌≤◌, ◌==◌, Bool, true, false, List, [], ◌∷◌, ◌++◌, length, get_or, map}
use Rattle.std.proofs.Common.{refl, sym, ap, ◌∙◌, subst, arith, append-nil, append_assoc, if◌then◌else◌}
use Rattle.std.specs.Prelude.{reverse}
use Rattle.std.specs.List.{AllByRecursion}
use Rattle.std.proofs.lemmas.List.{map-append}
use Rattle.gr_value.specs.Lists.{StartsWith}
use Rattle.gr_history.specs.declared.deed.Deed.{Deed}
use Rattle.gr_history.specs.declared.deed.Deed.TheVariants.{Gave}
use Rattle.gr_history.specs.declared.identity.Identity.{Identity}
use Rattle.gr_history.specs.declared.image.Gift.{Gift}
use Rattle.gr_history.specs.declared.image.Gift.TheVariants as gift_
use Rattle.gr_history.specs.declared.image.What.{What}
use Rattle.gr_history.specs.declared.image.What.TheVariants as what_
use Rattle.gr_history.specs.Gifts.{IsGiftOf}
use Rattle.gr_run_law.specs.Shares.{Stands}
use Rattle.gr_run_law.specs.Threads.{deed_if}
use Rattle.gr_run_law.proofs.Lists.{all_append}
use Rattle.gr_member.specs.Seats.{Place, Gives}
use Rattle.gr_member.specs.Passes.{AddsAt}
use Rattle.gr_session.specs.Steps.{AddsEach}
use Rattle.gr_session.proofs.Adding.{adds_at, stands_each, starts_trans}
use Rattle.gr_host.specs.Joins.{what_of}
use Rattle.gr_host.specs.Works.{GivesMore, HasGiven, IsGivenIn, StandMore, gift_deed}

-- ---- what stands

pub stand_none : (s : Place) → StandMore s [] s
stand_none s before h = subst (λ (l : List Deed). Stands s.view.seen 0 s.view.made l) (sym (append-nil before)) h

pub stand_trans : (s t u : Place) (xs ys : List Deed) → StandMore s xs t → StandMore t ys u → StandMore s (xs ++ ys) u
stand_trans s t u xs ys a b before h =
    subst (λ (l : List Deed). Stands u.view.seen 0 u.view.made l) (append_assoc before xs ys) (b (before ++ xs) (a before h))

pub stand_each : (s t : Place) (deeds : List Deed) → AddsEach s deeds t → StandMore s deeds t
stand_each s t deeds adds before h = (stands_each s t before deeds h adds).stands

-- where nothing was made before
pub stand_alone : (s t : Place) (deeds : List Deed) → s.view.made ≡ [] → StandMore s deeds t
    → Stands t.view.seen 0 t.view.made deeds
stand_alone s t deeds none stand =
    stand [] (subst (λ (l : List ℕ). Stands s.view.seen 0 l []) (sym none) (let k : 0 ≤ length s.view.seen = omega arith in k))

-- a deed that was added at one shard
pub added_at : (k : ℕ) (p q : List Place) (deed : Deed) → AddsAt k p deed q → (shard : ℕ) (s : Place) → shard < length p
    → AddsEach (get_or p shard s) (deed_if (shard == k) deed ++ []) (get_or q shard s)
added_at k p q deed a shard s less =
    subst (λ (l : List Deed). AddsEach (get_or p shard s) l (get_or q shard s)) (as_list (shard == k)) (adds_at k p q deed a shard s less)
  where
    as_list : (b : Bool) → (if b then deed ∷ [] else []) ≡ deed_if b deed ++ []
    as_list true = refl
    as_list false = refl

-- ---- gifts

pub what_is : (giver opening : ℕ) (past : List Deed) (what : What) (gift : Gift) → IsGiftOf giver opening past what gift → what ≡ what_of gift
what_is giver opening past what_.Image (gift_.Image image) is = refl
what_is giver opening past what_.Image (gift_.Own changes) is = absurd is
what_is giver opening past what_.Own (gift_.Image image) is = absurd is
what_is giver opening past what_.Own (gift_.Own changes) is = refl

module _ (id : Identity) (opening joiner : ℕ) where
  all_on : (seen more : List Deed) (gifts : List Gift) → StartsWith more seen → AllByRecursion (IsGivenIn id opening joiner seen) gifts
      → AllByRecursion (IsGivenIn id opening joiner more) gifts
  all_on seen more [] starts all = tt
  all_on seen more (gift ∷ gifts) starts all = (
    record {
      before = all.0.before;
      begins = starts_trans more seen (all.0.before ++ gift_deed joiner gift ∷ []) starts all.0.begins;
      is_gift = all.0.is_gift;
    },
    all_on seen more gifts starts all.1,
  )

  pub gives_none : (s : Place) → GivesMore id opening joiner s [] s
  gives_none s = record { knows = ([], sym (append-nil s.view.seen)); stand = stand_none s; each = tt }

  pub gives_trans : (s t u : Place) (xs ys : List Gift) → GivesMore id opening joiner s xs t → GivesMore id opening joiner t ys u
      → GivesMore id opening joiner s (xs ++ ys) u
  gives_trans s t u xs ys a b = record {
    knows = starts_trans u.view.seen t.view.seen s.view.seen b.knows a.knows;
    stand = subst (λ (l : List Deed). StandMore s l u) (sym (map-append (gift_deed joiner) xs ys))
        (stand_trans s t u (map (gift_deed joiner) xs) (map (gift_deed joiner) ys) a.stand b.stand);
    each = all_append (IsGivenIn id opening joiner u.view.seen) xs ys (all_on t.view.seen u.view.seen xs b.knows a.each) b.each;
  }

  pub gives_one : (s t : Place) (what : What) (gift : Gift) → Gives id opening s joiner what gift t
      → GivesMore id opening joiner s (gift ∷ []) t
  gives_one s t what gift g =
      let is = what_is id.member opening (reverse g.before) what gift g.given in
      let now : t.view.seen ≡ g.before ++ gift_deed joiner gift ∷ [] =
      g.adds.seen ∙ ap (λ (w : What). g.before ++ Gave joiner w ∷ []) is in
      record {
        knows = starts_trans t.view.seen g.before s.view.seen (gift_deed joiner gift ∷ [], now) g.adds.known;
        stand = subst (λ (w : What). StandMore s (Gave joiner w ∷ []) t) is
            (stand_each s t (Gave joiner what ∷ []) (t, (g.before, g.adds), refl));
        each = (
          record {
            before = g.before;
            begins = ([], now ∙ sym (append-nil (g.before ++ gift_deed joiner gift ∷ [])));
            is_gift = subst (λ (w : What). IsGiftOf id.member opening (reverse g.before) w gift) is g.given;
          },
          tt,
        );
      }

  -- where nothing was made before
  pub given_alone : (s t : Place) (gifts : List Gift) → s.view.made ≡ [] → GivesMore id opening joiner s gifts t
      → HasGiven id opening joiner t gifts
  given_alone s t gifts none g = record { stands = stand_alone s t (map (gift_deed joiner) gifts) none g.stand; each = g.each }
