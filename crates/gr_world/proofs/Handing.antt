-- A joiner takes in what every other member gives it.
use Rattle.std.proofs.Common.{zero, suc, ◌≡◌, ◌∙◌, ap, sym, subst, refl, ℕ, ◌+◌, ◌<◌, List, [], ◌∷◌, length, take, get_or, add-one, arith}
use Rattle.std.proofs.lemmas.List.{reverse-reverse}
use Rattle.gr_stamp.specs.declared.change.Change.{Change}
use Rattle.gr_history.specs.declared.deed.Deed.{Deed}
use Rattle.gr_history.specs.declared.image.Gift.{Gift}
use Rattle.gr_history.specs.declared.image.Gift.TheVariants as gift
use Rattle.gr_history.specs.declared.image.Image.{Image}
use Rattle.gr_history.specs.declared.image.What.{What}
use Rattle.gr_history.specs.declared.image.What.TheVariants as what
use Rattle.gr_vector.specs.Ids.{Id}
use Rattle.gr_history.specs.Gifts.{IsGiftOf, IsImageOf, own_changes, image_of}
use Rattle.gr_history.specs.Ids.{known}
use Rattle.gr_history.specs.Regions.{all_standing}
use Rattle.gr_history.specs.Room.{HasNoRoom}
use Rattle.gr_shard.specs.Merges.{IsGiftFor}
use Rattle.gr_shard.specs.View.{Account}
use Rattle.gr_script.specs.Rules.{Heading, IsMember}
use Rattle.gr_world.specs.declared.world.World.{World}
use Rattle.gr_world.specs.Courses.{does, for_each_of, gives, identity_at, takes_gift}
use Rattle.gr_world.specs.Doings.{Gives}
use Rattle.gr_world.specs.Events.{Event, history}
use Rattle.gr_world.specs.Tasks.{IsGiven}
use Rattle.gr_world.specs.Worlds.{IsWorld, Plays, account_at}
use Rattle.gr_world.proofs.Worlds.{Adds, cell_left, quiet_plays}

-- one item more
of_more : {A : Type 0} (act : A → List Event → List Event) (items : List A) (i : ℕ) (d : A) (before : List Event) → i < length items
    → for_each_of act (take (suc i) items) before ≡ act (get_or items i d) (for_each_of act (take i items) before)
of_more act [] i d before less = absurd (omega (arith, less))
of_more act (item ∷ rest) zero d before less = refl
of_more act (item ∷ rest) (suc i) d before less = of_more act rest i d (act item before) (omega (arith, less))

pub of_more_plays : {A : Type 0} (heading : Heading) (act : A → List Event → List Event) (items : List A) (i : ℕ) (item : A)
    (first now next : World) → i < length items → item ≡ get_or items i item
    → Plays heading (for_each_of act (take i items)) first now → Plays heading (act item) now next
    → Plays heading (for_each_of act (take (i + 1) items)) first next
of_more_plays heading act items i item first now next less is so_far more events world =
    let before = for_each_of act (take i items) events in
    let here = subst (λ one. IsWorld heading (act one before) next) is (more before (so_far events world)) in
    rw add-one (subst (λ all. IsWorld heading all next) (sym (of_more act items i item events less)) here)

-- ---- what is given

-- the one gift that a history has
gift_of : ℕ → ℕ → List Deed → What → Gift
gift_of member opening past what.Image = gift.Image (image_of member opening past)
gift_of member opening past what.Own = gift.Own (own_changes past)

abbrev image_with : ℕ → ℕ → List Change → List Id → ℕ → ℕ → Image
image_with from at rows ids spare floor =
    record { from = from; at = at; rows = rows; vector = record { ids = ids; spare = spare }; floor = floor }

image_is : (member opening : ℕ) (past : List Deed) (image : Image) → IsImageOf member opening past image → image.vector.spare ≡ 0
    → image ≡ image_of member opening past
image_is member opening past image is spare =
    let rows = all_standing past in
    let ids = known past in
    ap (λ x. image_with x image.at image.rows image.vector.ids image.vector.spare image.floor) is.giver_is
    ∙ ap (λ x. image_with member x image.rows image.vector.ids image.vector.spare image.floor) is.at_is
    ∙ ap (λ x. image_with member (length past) x image.vector.ids image.vector.spare image.floor) is.rows_are
    ∙ ap (λ x. image_with member (length past) rows x image.vector.spare image.floor) is.vector_is
    ∙ ap (λ x. image_with member (length past) rows ids x image.floor) spare
    ∙ ap (image_with member (length past) rows ids 0) is.floor_is

gift_is : (member opening : ℕ) (past : List Deed) (what_ : What) (given : Gift)
    → IsGiftOf member opening past what_ given → HasNoRoom given → given ≡ gift_of member opening past what_
unfolding gift_of
gift_is member opening past what.Image (gift.Image image) is room = ap gift.Image (image_is member opening past image is room)
gift_is member opening past what.Image (gift.Own changes) is room = absurd is
gift_is member opening past what.Own (gift.Image image) is room = absurd is
gift_is member opening past what.Own (gift.Own changes) is room = ap gift.Own is

-- what fits one member's shard fits the other members' shards of that number
pub fits_too : (heading : Heading) (giver joiner shard : ℕ) (given : Gift) → IsGiftFor (identity_at heading giver shard) given
    → IsGiftFor (identity_at heading joiner shard) given
fits_too heading giver joiner shard (gift.Image image) fits =
    record { in_order = fits.in_order; of_shard = fits.of_shard; low = fits.low }
fits_too heading giver joiner shard (gift.Own changes) fits = fits

-- ---- a gift is given and taken in

pub give_plays : (heading : Heading) (old : World) (giver shard joiner : ℕ) (what_ : What) (deed : Deed) (was now : Account)
    → Adds heading old giver shard (Gives joiner what_) deed was now
give_plays heading old giver shard joiner what_ deed was now =
    quiet_plays heading old giver shard (Gives joiner what_) deed was now
    (λ id opening past. record { unmade = λ client number. refl; untold = λ client. refl })

gives_are : (heading : Heading) (joiner shard giver : ℕ) (what_ : What) (before : List Event)
    → takes_gift heading joiner shard (gift_of giver heading.floor (history giver shard before) what_)
    (does heading giver shard (Gives joiner what_) before)
    ≡ gives heading joiner shard giver what_ before
unfolding gift_of
gives_are heading joiner shard giver what.Image before = refl
gives_are heading joiner shard giver what.Own before = refl

pub handed_over : (heading : Heading) (old mid new : World) (joiner shard giver : ℕ) (what_ : What) (given : Gift)
    → IsMember heading giver → shard < heading.shards
    → IsGiven (account_at old.grid giver shard) what_ given
    → Plays heading (does heading giver shard (Gives joiner what_)) old mid
    → Plays heading (takes_gift heading joiner shard given) mid new
    → Plays heading (gives heading joiner shard giver what_) old new
handed_over heading old mid new joiner shard giver what_ given is within gave give_done take_done events world =
    let past = history giver shard events in
    let cell = ap (λ grid. account_at grid giver shard) world.grid_is ∙ cell_left heading events giver shard is within in
    let here = subst (λ account. IsGiven account what_ given) cell gave in
    let of = subst (λ deeds. IsGiftOf giver heading.floor deeds what_ given) (reverse-reverse past) here.0 in
    let one = gift_is giver heading.floor past what_ given of here.2 in
    let after = take_done (does heading giver shard (Gives joiner what_) events) (give_done events world) in
    let same = ap (λ g. takes_gift heading joiner shard g (does heading giver shard (Gives joiner what_) events)) one
    ∙ gives_are heading joiner shard giver what_ events in
    subst (λ all. IsWorld heading all new) same after
