-- What the trouble plan does in all.
use Rattle.std.specs.Prelude.{ℕ, Bool, ◌≡◌, ◌+◌, ◌%◌, ◌==◌, if◌then◌else◌, List, [], ◌∷◌, ◌++◌, length, filter}
use Rattle.gr_post.specs.declared.mail.Mail.{Mail}
use Rattle.gr_post.specs.declared.mail.Mail.TheVariants.{End}
use Rattle.gr_post.specs.Plan.{Draw, delivered}

-- how often a mail is sent, by its number
abbrev pub times : ℕ → ℕ
times x = if x % 4 == 1 then 2 else 1

-- how many mails that pass the test are owed
abbrev pub owed : (Mail → Bool) → List Draw → ℕ
owed test [] = 0
owed test (d ∷ ds) = (if test d.mail then times d.number else 0) + owed test ds

-- an End comes last, and before it each mail as often as its number says
abbrev pub DeliversEach : List Draw → Type 0
DeliversEach ds = (all : List Mail) × (delivered ds ≡ all ++ End ∷ []) × ((test : Mail → Bool) → length (filter test all) ≡ owed test ds)
