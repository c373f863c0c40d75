-- A client's step that is no query's, and a delivery, spelled as they are printed.
use Rattle.std.specs.Prelude.{◌≡◌, ℕ, List, ◌∷◌, ◌++◌, ⊤}
use Rattle.std.specs.Fmt.{decimal}
use Rattle.gr_script.specs.declared.forms.LineKind.{LineKind}
use Rattle.gr_script.specs.declared.line.Act.{Act}
use Rattle.gr_script.specs.declared.line.Act.TheVariants.{Query}
use Rattle.gr_script.specs.declared.line.Line.TheVariants.{Deliver}
use Rattle.gr_script.specs.declared.plain.Delivery.{Delivery}
use Rattle.gr_script.specs.declared.plain.PlainStep.{PlainStep}
use Rattle.gr_script.specs.declared.saying.Saying.{Saying}
use Rattle.gr_script.specs.Forms.{word}
use Rattle.gr_script.specs.Printed.{act_saying, saying_in, IsActKept}
use Rattle.gr_script.specs.Printing.{saying_text}

-- a call or a peek
abbrev pub IsPlain : Act → Type 0
IsPlain (Query ask) = ⊥
IsPlain _ = ⊤

-- what is printed for it begins with the client and the word of its kind, and this is the rest
pub record IsSpelled (kind : LineKind) (rest : List ℕ) (act : Act) : Type 0 where
  pub text : (client : ℕ) → saying_text (act_saying client act) ≡ decimal client ++ 0x20 ∷ (word kind ++ 0x20 ∷ rest)
  pub is : (client : ℕ) → (act_saying client act).kind ≡ kind
  pub kept : IsActKept act
  pub plain : IsPlain act

-- the step whose line is this one
pub record IsPrinted (line : List ℕ) (step : PlainStep) : Type 0 where
  pub text : line ≡ saying_text (act_saying step.client step.act)
  pub is : (act_saying step.client step.act).kind ≡ step.kind
  pub kept : IsActKept step.act
  pub plain : IsPlain step.act

-- what the line of a delivery says
abbrev pub delivery_saying : Delivery → Saying
delivery_saying delivery = saying_in (Deliver delivery.to delivery.client delivery.seq)
