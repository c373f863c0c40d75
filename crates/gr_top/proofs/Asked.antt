-- A query's text among the words.
use Rattle.std.proofs.Common.{◌≡◌, ◌⊎◌, ◌≤◌, ap, arith, inl, inr, Result, Ok, Err, IfErr}
use Rattle.gr_oql.specs.declared.fault.OqlFault.{OqlFault}
use Rattle.gr_oql.specs.declared.fault.OqlFault.TheVariants as fault
use Rattle.gr_oql.specs.Question.{Question}
use Rattle.gr_top.specs.Words.{Understands, question_by, unread}

late : (asked : Result Question OqlFault) → IfErr (question_by asked) (λ place. 2 ≤ place)
late (Ok question) = tt
late (Err why) = omega arith

-- the fault that the grammar has is told, or that memory was refused
pub unread_so : (asked : Result Question OqlFault) (why : OqlFault) → (why ≡ fault.Memory) ⊎ (asked ≡ Err why)
    → Understands (question_by asked) (Err (unread why))
unread_so asked fault.Memory is = late asked
unread_so asked (fault.Lex lexed) (inl is) = absurd (apart is)
  where
    apart : fault.Lex lexed ≡ fault.Memory → ⊥
    apart e = cc
unread_so asked (fault.Lex lexed) (inr is) = ap question_by is
unread_so asked (fault.Expected place) (inl is) = absurd (apart is)
  where
    apart : fault.Expected place ≡ fault.Memory → ⊥
    apart e = cc
unread_so asked (fault.Expected place) (inr is) = ap question_by is
unread_so asked (fault.NotACq place part) (inl is) = absurd (apart is)
  where
    apart : fault.NotACq place part ≡ fault.Memory → ⊥
    apart e = cc
unread_so asked (fault.NotACq place part) (inr is) = ap question_by is
unread_so asked (fault.TooDeep place) (inl is) = absurd (apart is)
  where
    apart : fault.TooDeep place ≡ fault.Memory → ⊥
    apart e = cc
unread_so asked (fault.TooDeep place) (inr is) = ap question_by is

-- the same, where the fault is known by what else is
pub unread_where : {Is : OqlFault → Type 0} (asked : Result Question OqlFault) (why : OqlFault)
    → ((other : OqlFault) → Is other → asked ≡ Err other) → (why ≡ fault.Memory) ⊎ Is why
    → Understands (question_by asked) (Err (unread why))
unread_where asked why law (inl is) = unread_so asked why (inl is)
unread_where asked why law (inr is) = unread_so asked why (inr (law why is))
