-- Slots while what threads left is taken out of them.
use Rattle.std.proofs.Common.{◌≡◌, List, [], ◌∷◌, ◌++◌, length, map, Option, Some, sym, ap, ◌∙◌, reverse, append-nil, append_assoc}
use Rattle.std.proofs.lemmas.Grind.{reverse_onto}
use Rattle.std.proofs.lemmas.List.{map-append}
use Rattle.gr_member.proofs.Leaving.{empty_of}
use Rattle.gr_runner.specs.declared.gathering.Left.{Left}
use Rattle.gr_runner.specs.declared.slots.Slot.{Slot}
use Rattle.gr_runner.proofs.Conducts.{turned_maps}

-- These slots are left, and what stood in the others was taken out, the last first.
pub record IsUnpacked (all rest : List Slot) (lefts : List Left) : Type 0 where
  pub done : List Slot
  pub parts : all ≡ rest ++ done
  pub taken : map (λ (l : Left). Some l) lefts ≡ map (λ (s : Slot). s.left) (reverse done)

pub unpacked_none : (all : List Slot) (lefts : List Left) → length lefts ≡ 0 → IsUnpacked all all lefts
unpacked_none all lefts none = record {
  done = [];
  parts = sym (append-nil all);
  taken = ap (map (λ (l : Left). Some l)) (empty_of lefts none);
}

pub unpacked_more : (all rest less : List Slot) (slot : Slot) (lefts more : List Left) (left : Left) → IsUnpacked all rest lefts
    → rest ≡ less ++ slot ∷ [] → Some left ≡ slot.left → more ≡ lefts ++ left ∷ [] → IsUnpacked all less more
unpacked_more all rest less slot lefts more left u e is grown = record {
  done = slot ∷ u.done;
  parts = u.parts ∙ ap (λ (l : List Slot). l ++ u.done) e ∙ append_assoc less (slot ∷ []) u.done;
  taken = ap (map (λ (l : Left). Some l)) grown ∙ map-append (λ (l : Left). Some l) lefts (left ∷ [])
      ∙ ap (λ (l : List (Option Left)). l ++ Some left ∷ []) u.taken
      ∙ ap (λ (o : Option Left). map (λ (s : Slot). s.left) (reverse u.done) ++ o ∷ []) is
      ∙ sym (map-append (λ (s : Slot). s.left) (reverse u.done) (slot ∷ []))
      ∙ ap (map (λ (s : Slot). s.left)) (sym (reverse_onto u.done slot []));
}

pub unpacked_all : (all rest : List Slot) (lefts : List Left) → IsUnpacked all rest lefts → length rest ≡ 0
    → map (λ (l : Left). Some l) (reverse lefts) ≡ map (λ (s : Slot). s.left) all
unpacked_all all rest lefts u none =
    turned_maps (λ (l : Left). Some l) (λ (s : Slot). s.left) lefts u.done u.taken
    ∙ ap (map (λ (s : Slot). s.left)) (sym (u.parts ∙ ap (λ (l : List Slot). l ++ u.done) (empty_of rest none)))
