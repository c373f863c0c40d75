-- When all passes are dealt.
use Rattle.std.proofs.Common.{◌≡◌, ℕ, zero, suc, ◌+◌, ◌<◌, List, [], ◌∷◌, ◌++◌, length, get_or, reverse, flat_map}
use Rattle.std.proofs.Common.{sym, ap, ◌∙◌, arith, length-append}
use Rattle.std.specs.List.{AllByRecursion}
use Rattle.std.proofs.lemmas.List.{reverse-append}
use Rattle.gr_script.specs.Rules.{Heading}
use Rattle.gr_member.specs.Seats.{Place}
use Rattle.gr_runner.specs.declared.dealing.Dealt.{Dealt}
use Rattle.gr_runner.specs.declared.slots.ClientKit.{ClientKit}
use Rattle.gr_runner.specs.declared.slots.MemberKit.{MemberKit}
use Rattle.gr_runner.specs.declared.slots.Slot.{Slot}
use Rattle.gr_runner.specs.Dealing.{AddsClients, AreCounted, AreDealtTo, AreMemberSlots, AreTaken, AreToCome, IsDealt, IsRoom, dealt_at}
use Rattle.gr_runner.proofs.Dealings.{dealt_then}

all_get : {E : Type 0} (P : E → Type 0) (xs : List E) (k : ℕ) (d : E) → AllByRecursion P xs → k < length xs → P (get_or xs k d)
all_get P [] k d all l = absurd (omega (arith, l))
all_get P (x ∷ xs) zero d all l = all.0
all_get P (x ∷ xs) (suc k) d all l = all_get P xs k d all.1 (omega (arith, l))

pub counted_come : (h : Heading) (passes new : List (List (List Place))) (desks : List (List Place)) → AreCounted h passes
    → AreTaken passes desks new → AreToCome h 0 new
counted_come h passes new desks c t = record {
  many = t.many ∙ c.many;
  each = λ m x l.
      let many = c.many in
      let count = c.each m x l in
      let gone = ap length (t.each m x [] (omega (arith, l, many)))
      ∙ length-append (get_or new m x) (get_or desks m [] ∷ []) in
      omega (arith, count, gone);
}

pub all_dealt : (h : Heading) (passes one two three : List (List (List Place))) (desks : List (List Place)) (clients : List ClientKit)
    (members : List MemberKit) (slots grown : List Slot) (dealt : Dealt) → AreCounted h passes → AreTaken passes desks one
    → AreMemberSlots h members slots → AreDealtTo one slots two → AddsClients two clients slots grown three
    → AllByRecursion (λ left. left ≡ []) three → dealt.desks.items ≡ desks → dealt.slots.items ≡ grown
    → IsRoom (h.members + length h.clients) dealt.lefts → IsDealt h passes clients members dealt
all_dealt h passes one two three desks clients members slots grown dealt c t are to a none e f room = record {
  desks = ap length e ∙ t.count ∙ c.many;
  of_members = slots;
  of_clients = a.added;
  slots = f ∙ a.behind;
  members_are = are;
  clients_are = a.are;
  all = all;
  room = room;
}
  where
    both : AreDealtTo one grown three
    both = dealt_then one two three slots a.added grown to a.dealt a.behind

    all : (m : ℕ) (x : List (List Place)) (p : List Place) → m < h.members
        → get_or passes m x ≡ reverse (get_or dealt.desks.items m p ∷ flat_map (dealt_at m) dealt.slots.items)
    all m x p l =
        let many = c.many in
        let more = t.many in
        let most = both.many in
        let dealt_here = flat_map (dealt_at m) grown in
        t.each m x p (omega (arith, l, many))
        ∙ ap (λ (r : List (List Place)). r ++ get_or desks m p ∷ [])
        (both.each m x (omega (arith, l, many, more))
        ∙ ap (λ (r : List (List Place)). r ++ reverse dealt_here)
        (all_get (λ left. left ≡ []) three m x none (omega (arith, l, many, more, most))))
        ∙ sym (reverse-append (get_or desks m p ∷ []) dealt_here)
        ∙ ap (λ (d : List (List Place)). reverse (get_or d m p ∷ dealt_here)) (sym e)
        ∙ ap (λ (s : List Slot). reverse (get_or dealt.desks.items m p ∷ flat_map (dealt_at m) s)) (sym f)
