-- What a shard gives may be merged or taken in by a shard of the same number.
use Rattle.std.proofs.Common.{◌≡◌, ◌≤◌, ◌∙◌, sym, refl, subst, List, [], ◌∷◌, inl, inr, ⊎_elim}
use Rattle.std.specs.List.{AllByRecursion}
use Rattle.gr_value.specs.Shard.{shard_of}
use Rattle.gr_stamp.specs.declared.change.Change.{Change}
use Rattle.gr_stamp.specs.declared.stamp.TheConstants.{LIMIT}
use Rattle.gr_history.specs.declared.identity.Identity.{Identity}
use Rattle.gr_history.specs.declared.image.Image.{Image}
use Rattle.gr_history.specs.declared.deed.Deed.{Deed}
use Rattle.gr_history.specs.declared.deed.Deed.TheVariants.{Call, Asked, Taken, Gave, Imaged, Reported, Heard, Swept}
use Rattle.gr_history.specs.Gifts.{IsImageOf, own_changes}
use Rattle.gr_history.specs.Lawful.{AreInOrder}
use Rattle.gr_history.specs.Made.{made, made_at}
use Rattle.gr_history.specs.Standing.{came, changes}
use Rattle.gr_law.specs.Grids.{Among}
use Rattle.gr_law.proofs.Images.{lasting_came, row_stands}
use Rattle.gr_law.proofs.Lists.{among_either, among_left, among_reverse, among_right}
use Rattle.gr_law.proofs.Steps.{standing_best}
use Rattle.gr_law.proofs.Winners.{all_among}
use Rattle.gr_shard.specs.Merges.{IsImageFor}
use Rattle.gr_shard.specs.View.{IsKept, Kept}
use Rattle.gr_shard.proofs.Ordered.{standing_in_order}

all_of : {A : Type 0} (P : A → Type 0) (xs : List A) → ((x : A) → Among x xs → P x) → AllByRecursion P xs
all_of P [] each = tt
all_of P (x ∷ xs) each = (each x (inl refl), all_of P xs (λ y a. each y (inr a)))

made_came_at : (deed : Deed) (past : List Deed) (change : Change) → Among change (made_at deed) → Among change (came deed past)
made_came_at (Call client to seq ask reply made) past change a = a
made_came_at (Asked client seq ask reply) past change a = absurd a
made_came_at (Taken taken verdict) past change a = absurd a
made_came_at (Gave to what) past change a = absurd a
made_came_at (Imaged image) past change a = absurd a
made_came_at (Reported report) past change a = absurd a
made_came_at (Heard report) past change a = absurd a
made_came_at (Swept moment expired) past change a = absurd a

-- what was made came in
made_came : (past : List Deed) (change : Change) → Among change (made past) → Among change (changes past)
made_came [] change a = a
made_came (deed ∷ past) change a =
    ⊎_elim (λ here. among_left change (came deed past) (changes past) (made_came_at deed past change here))
    (λ there. among_right change (came deed past) (changes past) (made_came past change there))
    (among_either change (made_at deed) (made past) a)

module _ (id : Identity) (opening : _) (now : Kept) (past : List Deed) where
  came_here : IsKept id opening now past → (change : Change) → Among change (changes past) → shard_of change.key id.shards ≡ id.shard
  came_here kept change a = all_among (λ change. shard_of change.key id.shards ≡ id.shard) change (changes past) kept.of_shard a

  pub image_fits : (giver : _) (image : Image) → IsKept id opening now past → IsImageOf giver opening past image → IsImageFor id image
  image_fits giver image kept is = record {
    in_order = subst AreInOrder (sym is.rows_are) (standing_in_order past);
    of_shard = all_of (λ row. shard_of row.key id.shards ≡ id.shard) image.rows
        (λ row a. came_here kept row (lasting_came row.key past row
        (standing_best row.key past row (row_stands past image.rows is.rows_are row a)).among));
    low = subst (λ n. n ≤ LIMIT) (kept.floored ∙ sym is.floor_is) kept.low;
  }

  pub own_fits : (own : List Change) → IsKept id opening now past → own ≡ own_changes past
      → AllByRecursion (λ change. shard_of change.key id.shards ≡ id.shard) own
  own_fits own kept is =
      all_of (λ change. shard_of change.key id.shards ≡ id.shard) own
      (λ change a. came_here kept change (made_came past change (among_reverse change (made past) (subst (Among change) is a))))
