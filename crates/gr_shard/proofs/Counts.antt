-- Whom changes go to tells which members count as well as who was given something does.
use Rattle.std.proofs.Common.{zero, suc, ◌≡◌, ℕ, ◌≤◌, List, Bool, true, false, ◌&&◌, ◌||◌, ◌==◌, not, nat_le, refl, ap, ◌∙◌, arith}
use Rattle.std.proofs.Common.{◌-◌, if◌then◌else◌, sym}
use Rattle.std.specs.Prelude.{slice_index_or, None}
use Rattle.gr_history.specs.declared.identity.Identity.{Identity}
use Rattle.gr_history.specs.declared.deed.Deed.{Deed}
use Rattle.gr_history.specs.Ids.{known}
use Rattle.gr_history.specs.Recipients.{gave_to, is_in_bits, is_recipient, member_bits, recipients}
use Rattle.gr_history.specs.Stable.{is_covered, is_stable}
use Rattle.gr_law.proofs.Bits.{bits_at}
use Rattle.gr_stable.specs.Heard.{Reports, heard, is_named_by, is_passed, is_stable_by, is_stable_now}
use Rattle.gr_stable.proofs.Counting.{stable_is}
use Rattle.gr_vector.specs.Ids.{Id}

in_bits : (test : ℕ → Bool) (n member : ℕ) → 1 ≤ member → member ≤ n → is_in_bits member (member_bits test n) ≡ test member
in_bits test n zero from most = absurd (omega (arith, from))
in_bits test n (suc below) from most = ap (λ bit. bit == 1) (bits_at test n below most) ∙ one_is (test (suc below))
  where
    one_is : (b : Bool) → ((if b then 1 else 0) == 1) ≡ b
    one_is true = refl
    one_is false = refl

passes : (own founds given aimed named covered : Bool) → aimed ≡ ((founds || given) && not own)
    → (own || (not (founds || (aimed || named)) || covered)) ≡ (own || (not (founds || (given || named)) || covered))
passes true founds given aimed named covered is = refl
passes false true given aimed named covered is = refl
passes false false true aimed named covered is = rw is refl
passes false false false aimed named covered is = rw is refl

module _ (me founders given to : ℕ) (tombstone : Id) (reports : Reports) (ids : List Id) where
  same_upto : (n : ℕ) → ((member : ℕ) → 1 ≤ member → member ≤ n
      → is_in_bits member to ≡ ((nat_le member founders || is_in_bits member given) && not (member == me)))
      → is_stable_by me founders to n tombstone reports ids ≡ is_stable_by me founders given n tombstone reports ids
  same_upto zero are = refl
  same_upto (suc n) are =
      ap (λ b. b && is_stable_by me founders to n tombstone reports ids)
      (passes (suc n == me) (nat_le (suc n) founders) (is_in_bits (suc n) given) (is_in_bits (suc n) to)
      (is_named_by (suc n) founders reports) (is_covered (suc n) tombstone (slice_index_or reports (suc n - 1) None) ids)
      (are (suc n) (omega arith) (omega arith)))
      ∙ ap (λ b. is_passed me founders given tombstone reports ids (suc n) && b)
      (same_upto n (λ member from most. are member from (omega (arith, most))))

aimed_is : (id : Identity) (past : List Deed) (n member : ℕ) → 1 ≤ member → member ≤ n
    → is_in_bits member (member_bits (is_recipient id past) n)
    ≡ ((nat_le member id.founders || is_in_bits member (member_bits (λ m. gave_to m past) n)) && not (member == id.member))
aimed_is id past n member from most =
    in_bits (is_recipient id past) n member from most
    ∙ ap (λ given. (nat_le member id.founders || given) && not (member == id.member)) (sym (in_bits (λ m. gave_to m past) n member from most))

by_gifts : (id : Identity) (tombstone : Id) (past : List Deed)
    → is_stable_now id.member id.founders (recipients id past) tombstone (heard past) (known past)
    ≡ is_stable_now id.member id.founders (member_bits (λ m. gave_to m past) 8) tombstone (heard past) (known past)
unfolding recipients is_stable_now
by_gifts id tombstone past =
    same_upto id.member id.founders (member_bits (λ m. gave_to m past) 8) (member_bits (is_recipient id past) 8) tombstone (heard past)
    (known past) 8 (aimed_is id past 8)

-- A tombstone is stable by whom changes go to exactly where it is by the history.
pub stable_aimed : (id : Identity) (tombstone : Id) (past : List Deed) → id.founders ≤ 8
    → is_stable_now id.member id.founders (recipients id past) tombstone (heard past) (known past) ≡ is_stable id tombstone past
stable_aimed id tombstone past few =
    by_gifts id tombstone past
    ∙ stable_is id (member_bits (λ m. gave_to m past) 8) tombstone past few (in_bits (λ m. gave_to m past) 8)
