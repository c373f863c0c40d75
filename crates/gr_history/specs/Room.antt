-- Deeds without the room that vectors in them have to spare, which is no part of what they say.
use Rattle.std.specs.Prelude.{◌≡◌}
use Rattle.gr_vector.specs.declared.report.Report.{Report}
use Rattle.gr_history.specs.declared.deed.Deed.{Deed}
use Rattle.gr_history.specs.declared.deed.Deed.TheVariants.{Call, Asked, Taken, Gave, Imaged, Reported, Heard, Swept}
use Rattle.gr_history.specs.declared.image.Gift.{Gift}
use Rattle.gr_history.specs.declared.image.Gift.TheVariants as gift
use Rattle.gr_history.specs.declared.image.Image.{Image}

abbrev pub bare_report : Report → Report
bare_report report = record report { vector = record report.vector { spare = 0 } }

abbrev pub bare_image : Image → Image
bare_image image = record image { vector = record image.vector { spare = 0 } }

abbrev pub bare : Deed → Deed
bare (Call client to seq ask reply made) = Call client to seq ask reply made
bare (Asked client seq ask reply) = Asked client seq ask reply
bare (Taken change verdict) = Taken change verdict
bare (Gave to what) = Gave to what
bare (Imaged image) = Imaged (bare_image image)
bare (Reported report) = Reported (bare_report report)
bare (Heard report) = Heard (bare_report report)
bare (Swept moment expired) = Swept moment expired

-- reports that say the same: of one member, place and number of own changes, with the same ids
abbrev pub IsSameReport : Report → Report → Type 0
IsSameReport one two = bare_report one ≡ bare_report two

-- deeds that say the same
abbrev pub IsSameDeed : Deed → Deed → Type 0
IsSameDeed one two = bare one ≡ bare two

-- an image in a gift has no room to spare
abbrev pub HasNoRoom : Gift → Type 0
HasNoRoom (gift.Image image) = image.vector.spare ≡ 0
HasNoRoom (gift.Own changes) = Unit {0}
