-- What is found in changed lists, at the query that is changed and at the others.
use Rattle.std.proofs.Common.{◌≡◌, ℕ, List, [], ◌∷◌, ◌++◌, Bool, true, false, ◌&&◌, ◌==◌, not, refl, ap, ◌∙◌, arith, bytes_eq}
use Rattle.std.specs.Prelude.{Option, Some, None, option_map, if◌then◌else◌}
use Rattle.std.proofs.lemmas.Bool.Decides.{nat_tests}
use Rattle.std.proofs.lemmas.Slice.Eq.{bytes_eq-Decides}
use Rattle.gr_oql.specs.declared.event.Turned.{Turned}
use Rattle.gr_oql.specs.Question.{Question}
use Rattle.gr_cq.specs.Entries.{Kept, Entry, is_at, find, with_kept, changed_at, kept_opened, kept_noted, entry_opened, enrolled}
use Rattle.gr_cq.specs.Entries.{closed, noted, is_same_query}

pub find_noted : (all : List Turned) (client : ℕ) (name : List ℕ) (entries : List Entry)
    → find client name (noted all entries) ≡ option_map (kept_noted all) (find client name entries)
find_noted all client name [] = refl
find_noted all client name (entry ∷ entries) = at_test (is_at client name entry) (find_noted all client name entries)
  where
    at_test : (b : Bool) → find client name (noted all entries) ≡ option_map (kept_noted all) (find client name entries)
        → (if b then Some (kept_noted all entry.kept) else find client name (noted all entries))
        ≡ option_map (kept_noted all) (if b then Some entry.kept else find client name entries)
    at_test true next = refl
    at_test false next = next

pub find_changed : (change : Kept → Kept) (client : ℕ) (name : List ℕ) (entries : List Entry)
    → find client name (changed_at client name change entries) ≡ option_map change (find client name entries)
find_changed change client name [] = refl
find_changed change client name (entry ∷ entries) =
    at_test (is_at client name entry) refl (find_changed change client name entries)
  where
    at_test : (b : Bool) → is_at client name entry ≡ b
        → find client name (changed_at client name change entries) ≡ option_map change (find client name entries)
        → find client name (if b then with_kept change entry ∷ entries else entry ∷ changed_at client name change entries)
        ≡ option_map change (if b then Some entry.kept else find client name entries)
    at_test true e next = rw e refl
    at_test false e next = rw e next

-- an entry of one query isn't one of another
at_other : (one two : ℕ) (name other : List ℕ) (entry : Entry) → is_same_query one name two other ≡ false → is_at one name entry ≡ true
    → is_at two other entry ≡ false
at_other one two name other entry apart here =
    let same_client : entry.client ≡ one = grind (arith, nat_tests) in
    let names : bytes_eq entry.name name ≡ true = grind arith in
    let same_name : entry.name ≡ name = (bytes_eq-Decides entry.name name).0 names in
    ap (λ c. c == two && bytes_eq entry.name other) same_client ∙ ap (λ n. one == two && bytes_eq n other) same_name ∙ apart

pub find_unchanged : (change : Kept → Kept) (one two : ℕ) (name other : List ℕ) (entries : List Entry)
    → is_same_query one name two other ≡ false → find two other (changed_at one name change entries) ≡ find two other entries
find_unchanged change one two name other [] apart = refl
find_unchanged change one two name other (entry ∷ entries) apart =
    at_test (is_at one name entry) refl (find_unchanged change one two name other entries apart)
  where
    at_test : (b : Bool) → is_at one name entry ≡ b
        → find two other (changed_at one name change entries) ≡ find two other entries
        → find two other (if b then with_kept change entry ∷ entries else entry ∷ changed_at one name change entries)
        ≡ (if is_at two other entry then Some entry.kept else find two other entries)
    at_test true e next = let no : is_at two other entry ≡ false = at_other one two name other entry apart e in rw no refl
    at_test false e next = ap (λ o. if is_at two other entry then Some entry.kept else o) next

pub find_closed : (client : ℕ) (name : List ℕ) (entries : List Entry) → find client name (closed client name entries) ≡ None
find_closed client name [] = refl
find_closed client name (entry ∷ entries) = at_test (is_at client name entry) refl (find_closed client name entries)
  where
    at_test : (b : Bool) → is_at client name entry ≡ b → find client name (closed client name entries) ≡ None
        → find client name (if not b then entry ∷ closed client name entries else closed client name entries) ≡ None
    at_test true e next = next
    at_test false e next = rw e next

pub find_unclosed : (one two : ℕ) (name other : List ℕ) (entries : List Entry) → is_same_query one name two other ≡ false
    → find two other (closed one name entries) ≡ find two other entries
find_unclosed one two name other [] apart = refl
find_unclosed one two name other (entry ∷ entries) apart =
    at_test (is_at one name entry) refl (find_unclosed one two name other entries apart)
  where
    at_test : (b : Bool) → is_at one name entry ≡ b → find two other (closed one name entries) ≡ find two other entries
        → find two other (if not b then entry ∷ closed one name entries else closed one name entries)
        ≡ (if is_at two other entry then Some entry.kept else find two other entries)
    at_test true e next = let no : is_at two other entry ≡ false = at_other one two name other entry apart e in rw no next
    at_test false e next = ap (λ o. if is_at two other entry then Some entry.kept else o) next

-- what is found behind, where nothing is found before
abbrev found_or : Option Kept → Option Kept → Option Kept
found_or None behind = behind
found_or (Some kept) behind = Some kept

find_behind : (client : ℕ) (name : List ℕ) (entries : List Entry) (entry : Entry)
    → find client name (entries ++ entry ∷ [])
    ≡ found_or (find client name entries) (if is_at client name entry then Some entry.kept else None)
find_behind client name [] entry = refl
find_behind client name (before ∷ entries) entry =
    at_test (is_at client name before) (find_behind client name entries entry)
  where
    at_test : (b : Bool)
        → find client name (entries ++ entry ∷ [])
        ≡ found_or (find client name entries) (if is_at client name entry then Some entry.kept else None)
        → (if b then Some before.kept else find client name (entries ++ entry ∷ []))
        ≡ found_or (if b then Some before.kept else find client name entries) (if is_at client name entry then Some entry.kept else None)
    at_test true next = refl
    at_test false next = next

same_query : (client : ℕ) (name : List ℕ) → is_same_query client name client name ≡ true
same_query client name =
    let one : (client == client) ≡ true = grind (arith, nat_tests) in
    let two : bytes_eq name name ≡ true = (bytes_eq-Decides name name).1 refl in
    rw (one, two) refl

pub find_enrolled : (client : ℕ) (name : List ℕ) (question : Question) (entries : List Entry) → find client name entries ≡ None
    → find client name (enrolled client name question entries) ≡ Some (kept_opened question)
find_enrolled client name question entries none =
    find_behind client name entries (entry_opened client name question) ∙ rw (none, same_query client name) refl

pub find_unenrolled : (one two : ℕ) (name other : List ℕ) (question : Question) (entries : List Entry)
    → is_same_query one name two other ≡ false → find two other (enrolled one name question entries) ≡ find two other entries
find_unenrolled one two name other question entries apart =
    find_behind two other entries (entry_opened one name question) ∙ rw apart (whole (find two other entries))
  where
    whole : (o : Option Kept) → found_or o None ≡ o
    whole None = refl
    whole (Some kept) = refl
