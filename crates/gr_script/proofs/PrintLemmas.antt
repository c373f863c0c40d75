-- Texts that are printed one after another.
use Rattle.std.proofs.Common.{◌≡◌, ℕ, ◌+◌, ◌<◌, List, [], ◌∷◌, ◌++◌, length, take, get_or, All, sym, ap, ◌∙◌, subst, append_assoc}
use Rattle.std.proofs.Common.{flat_map, drop, decimal, drop-cons, arith, suc, refl, map}
use Rattle.std.specs.Prelude.{codes}
use Rattle.gr_script.specs.declared.forms.LineKind.TheVariants as kind
use Rattle.gr_script.specs.Forms.{word}
use Rattle.gr_script.specs.Printed.{stated_sayings, client_sayings, heading_sayings, saying_in, line_text, script_text}
use Rattle.gr_script.specs.declared.line.Line.{Line}
use Rattle.gr_script.specs.declared.saying.Saying.{Saying}
use Rattle.gr_script.specs.Printing.{saying_text, text_of_sayings}
use Rattle.gr_script.specs.Rules.{Heading}
use Rattle.std.proofs.lemmas.Grind.{flat_map-append}
use Rattle.std.proofs.lemmas.List.{take_more, append-nil}
use Rattle.std.proofs.lemmas.List.Elements.{All-nil, All-cons, All-append}

module _ {X : Type 0} (items : List X) (place : ℕ) (d item : X) (within : place < length items) (is : item ≡ get_or items place d) where
  pub printed_more : (text : X → List ℕ) (before so_far more : List ℕ) → so_far ≡ before ++ flat_map text (take place items)
      → more ≡ so_far ++ text item
      → more ≡ before ++ flat_map text (take (place + 1) items)
  printed_more text before so_far more front next =
      next ∙ ap (λ (x : X). so_far ++ text x) is ∙ ap (λ (t : List ℕ). t ++ text (get_or items place d)) front
      ∙ append_assoc before (flat_map text (take place items)) (text (get_or items place d))
      ∙ ap (λ (t : List ℕ). before ++ t)
      (ap (λ (t : List ℕ). flat_map text (take place items) ++ t) (sym (append-nil (text (get_or items place d))))
      ∙ sym (flat_map-append text (take place items) (get_or items place d ∷ []))
      ∙ ap (flat_map text) (sym (take_more items place d within)))

  pub each_more : (P : X → Type 0) → All P (take place items) → P item → All P (take (place + 1) items)
  each_more P front next =
      subst (All P) (sym (take_more items place d within))
      (All-append P (take place items) _ front (All-cons P _ [] (subst P is next) (All-nil P)))

-- ---- the lines of a heading

abbrev number_line : List ℕ → ℕ → List ℕ
number_line word number = word ++ (codes " " ++ (decimal number ++ 0x0A ∷ []))

line_with : (word number : List ℕ) → (word ++ ((codes " " ++ number) ++ [])) ++ 0x0A ∷ [] ≡ word ++ (codes " " ++ (number ++ 0x0A ∷ []))
line_with word number = simp (append_assoc, append-nil)

two_fields : (word s one t two end : List ℕ)
    → (word ++ ((s ++ one) ++ ((t ++ two) ++ []))) ++ end ≡ word ++ (s ++ (one ++ (t ++ (two ++ end))))
two_fields word s one t two end = simp (append_assoc, append-nil)

line_with_two : (word one two : List ℕ) → (word ++ ((codes " " ++ one) ++ ((codes " " ++ two) ++ []))) ++ 0x0A ∷ []
    ≡ word ++ (codes " " ++ (one ++ (codes " " ++ (two ++ 0x0A ∷ []))))
line_with_two word one two = two_fields word (codes " ") one (codes " ") two (0x0A ∷ [])

line_with_at : (word one two : List ℕ)
    → (word ++ ((codes " " ++ one) ++ (codes " at" ++ ((codes " " ++ two) ++ [])))) ++ 0x0A ∷ []
    ≡ word ++ (codes " " ++ (one ++ (codes " at " ++ (two ++ 0x0A ∷ []))))
line_with_at word one two = two_fields word (codes " ") one (codes " at ") two (0x0A ∷ [])

six_in_turn : (start a b c d e f : List ℕ)
    → (((((start ++ a) ++ b) ++ c) ++ d) ++ e) ++ f ≡ start ++ (a ++ (b ++ (c ++ (d ++ (e ++ (f ++ []))))))
six_in_turn start a b c d e f = simp (append_assoc, append-nil)

abbrev region_line : List ℕ → List ℕ
region_line region = codes "georep 1\nregion " ++ (region ++ 0x0A ∷ [])

abbrev members_line : ℕ → ℕ → List ℕ
members_line members founders = codes "members " ++ (decimal members ++ (codes " " ++ (decimal founders ++ 0x0A ∷ [])))

stated_is : (h : Heading) → region_line h.region ++ (members_line h.members h.founders ++ (number_line (word kind.Shards) h.shards
    ++ (number_line (word kind.Inbox) h.inbox
    ++ (number_line (word kind.Trouble) h.trouble ++ (number_line (word kind.Floor) h.floor ++ [])))))
    ≡ text_of_sayings (stated_sayings h)
stated_is h = sym (λ i. (codes "georep 1" ++ 0x0A ∷ []) ++ (line_with (word kind.Region) h.region i
    ++ (line_with_two (word kind.Members) (decimal h.members) (decimal h.founders) i ++ (line_with (word kind.Shards) (decimal h.shards) i
    ++ (line_with (word kind.Inbox) (decimal h.inbox) i ++ (line_with (word kind.Trouble) (decimal h.trouble) i
    ++ (line_with (word kind.Floor) (decimal h.floor) i ++ [])))))))

module _ (h : Heading) (start region members shards inbox trouble floor : List ℕ) (shard_count inbox_room seed : ℕ)
    (same_shards : shard_count ≡ h.shards) (same_inbox : inbox_room ≡ h.inbox) (same_trouble : seed ≡ h.trouble) where
  pub stated_printed : region ≡ start ++ region_line h.region → members ≡ region ++ members_line h.members h.founders
      → shards ≡ members ++ number_line (word kind.Shards) shard_count → inbox ≡ shards ++ number_line (word kind.Inbox) inbox_room
      → trouble ≡ inbox ++ number_line (word kind.Trouble) seed → floor ≡ trouble ++ number_line (word kind.Floor) h.floor
      → floor ≡ start ++ text_of_sayings (stated_sayings h)
  stated_printed e1 e2 e3 e4 e5 e6 =
      let f3 : shards ≡ members ++ number_line (word kind.Shards) h.shards = e3
      ∙ ap (λ n. members ++ number_line (word kind.Shards) n) same_shards in
      let f4 : inbox ≡ shards ++ number_line (word kind.Inbox) h.inbox = e4
      ∙ ap (λ n. shards ++ number_line (word kind.Inbox) n) same_inbox in
      let f5 : trouble ≡ inbox ++ number_line (word kind.Trouble) h.trouble =
      e5 ∙ ap (λ n. inbox ++ number_line (word kind.Trouble) n) same_trouble in
      e6 ∙ ap (λ x. x ++ number_line (word kind.Floor) h.floor)
      (f5 ∙ ap (λ x. x ++ number_line (word kind.Trouble) h.trouble)
      (f4 ∙ ap (λ x. x ++ number_line (word kind.Inbox) h.inbox)
      (f3 ∙ ap (λ x. x ++ number_line (word kind.Shards) h.shards)
      (e2 ∙ ap (λ x. x ++ members_line h.members h.founders) e1))))
      ∙ six_in_turn start (region_line h.region) (members_line h.members h.founders) (number_line (word kind.Shards) h.shards)
      (number_line (word kind.Inbox) h.inbox) (number_line (word kind.Trouble) h.trouble) (number_line (word kind.Floor) h.floor)
      ∙ ap (λ x. start ++ x) (stated_is h)

abbrev client_line : ℕ → ℕ → List ℕ
client_line client member = codes "client " ++ (decimal client ++ (codes " at " ++ (decimal member ++ 0x0A ∷ [])))

abbrev client_text : ℕ → ℕ → List ℕ
client_text client member =
    (word kind.Client ++ ((codes " " ++ decimal client) ++ (codes " at" ++ ((codes " " ++ decimal member) ++ [])))) ++ 0x0A ∷ []

pub clients_printed : (client : ℕ) (members : List ℕ) (place : ℕ) (so_far more whole : List ℕ) → place < length members
    → more ≡ so_far ++ client_line client (get_or members place 0)
    → so_far ++ text_of_sayings (client_sayings client (drop place members)) ≡ whole
    → more ++ text_of_sayings (client_sayings (client + 1) (drop (place + 1) members)) ≡ whole
clients_printed client members place so_far more whole within next front =
    let member = get_or members place 0 in
    let further : place + 1 ≡ suc place = omega arith in
    let left = text_of_sayings (client_sayings (client + 1) (drop (place + 1) members)) in
    ap (λ x. x ++ left) next ∙ append_assoc so_far (client_line client member) left
    ∙ ap (λ x. so_far ++ (x ++ left)) (sym (line_with_at (word kind.Client) (decimal client) (decimal member)))
    ∙ ap (λ n. so_far ++ (client_text client member ++ text_of_sayings (client_sayings (client + 1) (drop n members)))) further
    ∙ ap (λ ms. so_far ++ text_of_sayings (client_sayings client ms)) (sym (drop-cons members place 0 within)) ∙ front

-- ---- the whole

sayings_joined : (front rest : List Saying) → text_of_sayings (front ++ rest) ≡ text_of_sayings front ++ text_of_sayings rest
sayings_joined [] rest = refl
sayings_joined (saying ∷ front) rest =
    ap (λ (t : List ℕ). (saying_text saying ++ 0x0A ∷ []) ++ t) (sayings_joined front rest)
    ∙ sym (append_assoc (saying_text saying ++ 0x0A ∷ []) (text_of_sayings front) (text_of_sayings rest))

lines_are : (lines : List Line) → flat_map line_text lines ≡ text_of_sayings (map saying_in lines)
unfolding line_text
lines_are [] = refl
lines_are (line ∷ lines) = ap (λ (t : List ℕ). (saying_text (saying_in line) ++ 0x0A ∷ []) ++ t) (lines_are lines)

pub heading_printed : (h : Heading) (clients start stated named : List ℕ) → clients ≡ h.clients
    → stated ≡ start ++ text_of_sayings (stated_sayings h) → named ≡ stated ++ text_of_sayings (client_sayings 1 clients)
    → named ≡ start ++ text_of_sayings (heading_sayings h)
heading_printed h clients start stated named same e1 e2 =
    e2 ∙ ap (λ (ms : List ℕ). stated ++ text_of_sayings (client_sayings 1 ms)) same
    ∙ ap (λ (t : List ℕ). t ++ text_of_sayings (client_sayings 1 h.clients)) e1
    ∙ append_assoc start (text_of_sayings (stated_sayings h)) (text_of_sayings (client_sayings 1 h.clients))
    ∙ ap (λ (t : List ℕ). start ++ t) (sym (sayings_joined (stated_sayings h) (client_sayings 1 h.clients)))

pub whole_printed : (h : Heading) (lines others : List Line) (start named whole : List ℕ) → start ≡ [] → others ≡ lines
    → named ≡ start ++ text_of_sayings (heading_sayings h) → whole ≡ named ++ flat_map line_text others → whole ≡ script_text h lines
whole_printed h lines others start named whole none same e1 e2 =
    e2 ∙ ap (λ (ls : List Line). named ++ flat_map line_text ls) same
    ∙ ap (λ (t : List ℕ). t ++ flat_map line_text lines) (e1 ∙ ap (λ (t : List ℕ). t ++ text_of_sayings (heading_sayings h)) none)
    ∙ ap (λ (t : List ℕ). text_of_sayings (heading_sayings h) ++ t) (lines_are lines)
    ∙ sym (sayings_joined (heading_sayings h) (map saying_in lines))
