-- Words on lists of mails.
use Rattle.std.specs.Prelude.{◌≡◌, ℕ, Bool, true, false, ◌||◌, List, [], ◌∷◌, ◌++◌, cond, ◌==◌}
use Rattle.gr_post.specs.declared.mail.Mail.{Mail}
use Rattle.gr_post.specs.declared.mail.Mail.TheVariants.{Change, Report, End}
use Rattle.gr_post.specs.declared.mail.Posted.{Posted}

-- the mails of one sender
abbrev pub of : ℕ → List Posted → List Mail
of p [] = []
of p (m ∷ ms) = cond (m.from == p) (m.mail ∷ of p ms) (of p ms)

-- all ends with last
abbrev pub EndsWith : {E : Type 0} → List E → List E → Type 0
EndsWith {E} all last = (first : List E) × (all ≡ first ++ last)

abbrev pub is_end : Mail → Bool
is_end (Change shard change) = false
is_end (Report shard report) = false
is_end End = true

abbrev pub has_end : List Mail → Bool
has_end [] = false
has_end (x ∷ xs) = is_end x || has_end xs

-- the last mail is an End, and no other is
abbrev pub IsClosed : List Mail → Type 0
IsClosed all = (first : List Mail) × (all ≡ first ++ End ∷ []) × (has_end first ≡ false)
