-- What a member that stays knows of another one, one that stays took in.
use Rattle.std.proofs.Common.{◌≡◌, ◌⊎◌, ℕ, ◌<◌, List, [], ◌∷◌, Bool, true, false, ◌||◌, ◌==◌, refl, sym, ap, ◌∙◌, subst}
use Rattle.std.proofs.Common.{inl, inr, ⊎_elim, arith, if◌then◌else◌}
use Rattle.std.specs.Prelude.{Some, None}
use Rattle.gr_stamp.specs.declared.change.Change.{Change}
use Rattle.gr_vector.specs.Ids.{Id, has_id, is_same_id}
use Rattle.gr_vector.proofs.Order.{same_id_same}
use Rattle.gr_history.specs.declared.identity.Identity.{Identity}
use Rattle.gr_history.specs.declared.image.Image.{Image}
use Rattle.gr_history.specs.declared.deed.Deed.{Deed}
use Rattle.gr_history.specs.declared.deed.Deed.TheVariants.{Call, Asked, Taken, Gave, Imaged, Reported, Heard, Swept}
use Rattle.gr_history.specs.declared.image.What.TheVariants as what
use Rattle.gr_history.specs.Ids.{id_of, ids_at, ids}
use Rattle.gr_history.specs.Lawful.{IsLawful, IsLawfulDeed}
use Rattle.gr_law.specs.Grids.{Among, Older, identity}
use Rattle.gr_law.specs.Integrity.{IsGift, IsSound, giver_of}
use Rattle.gr_law.proofs.Lists.{has_either, known_ids}
use Rattle.gr_law.proofs.Made.{made_stamped, older_genuine, older_ids}
use Rattle.gr_law.proofs.Took.{giver_older}
use Rattle.gr_law.proofs.Steps.{true_isnt_false}
use Rattle.gr_script.specs.Rules.{Heading}
use Rattle.gr_script.specs.Steps.{is_gone}
use Rattle.gr_world.specs.Events.{Event, history}
use Rattle.gr_world.specs.Causes.{grid_at}
use Rattle.gr_world.specs.Departures.{taken_of}
use Rattle.gr_world.proofs.Events.{same_number}
use Rattle.gr_world.specs.Shut.{IsKept, IsFromTaken}
use Rattle.gr_world.proofs.Growing.{isnt_true, more_taken}

pub record IsIn (of : ℕ) (past : List Deed) (id : Id) : Type 0 where
  pub change : Change
  pub taken : Among change (taken_of of past)
  pub named : id_of change ≡ id

pub record IsImaged (past : List Deed) (id : Id) : Type 0 where
  pub image : Image
  pub before : List Deed
  pub merged : Older (Imaged image ∷ before) past
  pub known : has_id id image.vector.ids ≡ true

pub has_one : (id other : Id) → has_id id (other ∷ []) ≡ true → other ≡ id
has_one id other h = at_test (is_same_id other id) refl h
  where
    at_test : (b : Bool) → is_same_id other id ≡ b → (b || false) ≡ true → other ≡ id
    at_test true e h = same_id_same other id e
    at_test false e h = absurd (isnt_true h)

-- An id of another member was taken in, or an image knew it.
known_from : (me : Identity) (opening of : ℕ) → (me.member ≡ of → ⊥) → (h : List Deed) → IsLawful me opening h → (id : Id)
    → id.member ≡ of → has_id id (ids h) ≡ true → IsIn of h id ⊎ IsImaged h id
known_from me opening of other [] law id named k = absurd (isnt_true k)
known_from me opening of other (deed ∷ past) law id named k = ⊎_elim
    (λ here. at_deed deed law.0 here)
    (λ there. ⊎_elim
    (λ t. inl (record { change = t.change; taken = more_taken of deed past t.change t.taken; named = t.named }))
    (λ i. inr (record { image = i.image; before = i.before; merged = inr i.merged; known = i.known }))
    (known_from me opening of other past law.1 id named there))
    (has_either id (ids_at deed) (ids past) k)
  where
    at_deed : (d : Deed) → IsLawfulDeed me opening d past → has_id id (ids_at d) ≡ true → IsIn of (d ∷ past) id ⊎ IsImaged (d ∷ past) id
    at_deed (Call client to seq ask reply (Some change)) law k =
        let is : id_of change ≡ id = has_one id (id_of change) k in
        let member = (made_stamped me opening change (Call client to seq ask reply (Some change)) past law (inl refl)).member_is in
        absurd (other (sym member ∙ ap (λ x. x.member) is ∙ named))
    at_deed (Call client to seq ask reply None) law k = absurd (isnt_true k)
    at_deed (Asked client seq ask reply) law k = absurd (isnt_true k)
    at_deed (Taken change how) law k =
        let is : id_of change ≡ id = has_one id (id_of change) k in
        let member : change.stamp.member ≡ of = ap (λ x. x.member) is ∙ named in
        inl (record { change = change; taken = at_test (change.stamp.member == of) (alike member); named = is })
      where
        alike : change.stamp.member ≡ of → (change.stamp.member == of) ≡ true
        alike e = subst (λ n. (change.stamp.member == n) ≡ true) e (same_number change.stamp.member)

        at_test : (b : Bool) → b ≡ true → Among change (if b then change ∷ taken_of of past else taken_of of past)
        at_test true e = inl refl
        at_test false e = absurd (isnt_true e)
    at_deed (Gave to what) law k = absurd (isnt_true k)
    at_deed (Imaged image) law k = inr (record { image = image; before = past; merged = inl refl; known = k })
    at_deed (Reported report) law k = absurd (isnt_true k)
    at_deed (Heard report) law k = absurd (isnt_true k)
    at_deed (Swept moment named) law k = absurd (isnt_true k)

-- each image was given by a member that stays
abbrev pub ImagesStay : Heading → List ℕ → ℕ → List Event → Type 0
ImagesStay heading gone shard now = (j : ℕ) (image : Image) (before : List Deed)
    → Older (Imaged image ∷ before) (history j shard now) → is_gone gone image.from ≡ false

pub from_taken : (heading : Heading) (gone : List ℕ) (of shard : ℕ) (now : List Event) → IsSound (grid_at heading shard now)
    → is_gone gone of ≡ true → ImagesStay heading gone shard now → IsFromTaken heading gone of shard now
from_taken heading gone of shard now sound left stay j stays id named k = ⊎_elim
    (λ t. record { giver = j; staying = stays; change = t.change; taken = t.taken; named = t.named })
    (λ i. from_image i.image i.before i.merged i.known)
    (known_from (identity (grid_at heading shard now) j) heading.floor of (other j stays.stays) (history j shard now) (sound.lawful j) id
    named k)
  where
    other : (m : ℕ) → is_gone gone m ≡ false → m ≡ of → ⊥
    other m stays is = true_isnt_false (sym left ∙ subst (λ n. is_gone gone n ≡ false) is stays)

    none : (deed : Deed) (q : List Deed) → Older (deed ∷ q) [] → ⊥
    none deed q e = cc

    gift_at : (m : ℕ) (image : Image) (before : List Deed) → Older (Imaged image ∷ before) (history m shard now)
        → (heading.founders < m) × IsGift (grid_at heading shard now) m image
    gift_at m image before merged =
        (older_genuine (grid_at heading shard now) m (Imaged image ∷ before) (history m shard now) merged (sound.genuine m)).0

    from_image : (image : Image) (before : List Deed) → Older (Imaged image ∷ before) (history j shard now)
        → has_id id image.vector.ids ≡ true → IsKept heading gone of shard now id
    from_image image before merged known =
        let gift = (gift_at j image before merged).1 in
        let there : has_id id (ids (history image.from shard now)) ≡ true =
        older_ids id (giver_of (grid_at heading shard now) image) (history image.from shard now)
        (giver_older (grid_at heading shard now) image)
        (sym (known_ids image.vector.ids (giver_of (grid_at heading shard now) image) gift.is_image.vector_is id) ∙ known) in
        let stays : is_gone gone image.from ≡ false = stay j image before merged in
        ⊎_elim
        (λ within. ⊎_elim
        (λ t. record {
          giver = image.from;
          staying = record { stated = within; stays = stays };
          change = t.change;
          taken = t.taken;
          named = t.named;
        })
        (λ i. absurd (let g = gift_at image.from i.image i.before i.merged in
        let le = gift.from_founder in omega (arith, g.0, le)))
        (known_from (identity (grid_at heading shard now) image.from) heading.floor of (other image.from stays)
        (history image.from shard now) (sound.lawful image.from) id named there))
        (λ empty. absurd (none _ _ (subst (Older (Gave j what.Image ∷ giver_of (grid_at heading shard now) image)) empty gift.gave)))
        (sound.outside image.from)
