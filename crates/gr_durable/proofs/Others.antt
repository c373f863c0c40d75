-- A deed that is no step of a client changes nothing of what it holds.
use Rattle.std.proofs.Common.{◌≡◌, ℕ, Bool, false, refl, ap, if◌then◌else◌}
use Rattle.std.specs.FinMap as finite
use Rattle.gr_history.specs.declared.deed.Deed.{Deed}
use Rattle.gr_history.specs.declared.deed.Deed.TheVariants.{Call, Asked, Taken, Gave, Imaged, Reported, Heard, Swept}
use Rattle.gr_history.specs.Deeds.{is_of_client}
use Rattle.gr_history.specs.Queries.{name_of}
use Rattle.gr_durable.specs.Tables.{Held, put_table, with_deed, with_reply}

pub no_step : (client : ℕ) (deed : Deed) (held : Held) → is_of_client client deed ≡ false → with_deed client deed held ≡ held
no_step client (Call own to seq ask reply made) held is = refl
no_step client (Asked own seq ask reply) held is =
    ap (λ (b : Bool). if b then put_table (name_of ask) (with_reply reply (finite.get held (name_of ask))) held else held) is
no_step client (Taken change verdict) held is = refl
no_step client (Gave to what) held is = refl
no_step client (Imaged image) held is = refl
no_step client (Reported report) held is = refl
no_step client (Heard report) held is = refl
no_step client (Swept moment expired) held is = refl
