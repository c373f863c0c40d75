-- Which removals have timed out, by the lists of their moments and among the slots.
use Rattle.std.proofs.Common.{◌≡◌, ◌∙◌, ap, sym, refl, ℕ, ◌-◌, ◌≤◌, ◌<◌, ◌==◌, List, [], ◌∷◌, arith}
use Rattle.std.proofs.Common.{Bool, true, false, ◌&&◌, ◌||◌, Option, Some, None, is_some, if◌then◌else◌, filter}
use Rattle.std.proofs.lemmas.Bool.Decides.{nat_tests}
use Rattle.std.specs.Global.{Vec}
use Rattle.std.specs.Ordering.{nat_cmp, is_eq, is_le, is_lt, MatchOrdering}
use Rattle.std.specs.declared.cmp.Ordering.{Ordering}
use Rattle.std.specs.declared.cmp.Ordering.TheVariants.{Less, Equal, Greater}
use Rattle.std.specs.Cmp.{eq_by_cmp_equiv, ranks}
use Rattle.std.specs.Cmp.Lexicographic.{slice_cmp}
use Rattle.std.specs.List.{list_any, AllByRecursion}
use Rattle.std.specs.List.Sorted.{IsStrictlySortedBy}
use Rattle.std.specs.Map.{keys_of, lookup}
use Rattle.std.specs.BTreeMap.{is_at, keys}
use Rattle.std.specs.BTreeMap.Range.{entries_between, range_contains}
use Rattle.std.specs.declared.ops.Bound.TheVariants.{Included}
use Rattle.std.specs.Prelude.{not}
use Rattle.std.specs.BTreeSet.{BTreeSet, contains, IsOrdered}
use Rattle.std.proofs.lemmas.Map.{lookup-none}
use Rattle.std.proofs.lemmas.Map.Entries.{none_past_head}
use Rattle.std.proofs.lemmas.Map.Keys.{sorted_tail, IsDistinct-from_sorted}
use Rattle.std.proofs.lemmas.Map.Lookups.{btree_set_from_contains, exact_bytes}
use Rattle.std.proofs.lemmas.Map.Made.{is_some-lookup}
use Rattle.std.proofs.lemmas.Map.Views.{any-filter_same}
use Rattle.gr_stamp.specs.Winner.{is_removal}
use Rattle.gr_slots.specs.declared.slot.Slot.{Slot}
use Rattle.gr_slots.specs.Slots.{Entries, slot_at, removed_at, is_late, is_timed_out, timed_out}
use Rattle.gr_slots.specs.Removals.{Moments, listed_in, keys_at, is_listed, is_moment, is_removed_among, AreIndexed}
use Rattle.gr_slots.proofs.Timed.{key_order}

abbrev is_key : List ℕ → List ℕ → Bool
is_key key = is_at (slice_cmp nat_cmp key)

-- ---- by the moments

-- no moment is late where none can be
none_late : (first clock : ℕ) (ats : List ℕ) → ((at : ℕ) → is_late first clock at ≡ false) → filter (is_late first clock) ats ≡ []
none_late first clock [] none = refl
none_late first clock (at ∷ ats) none =
    ap (λ b. if b then at ∷ filter (is_late first clock) ats else filter (is_late first clock) ats) (none at)
    ∙ none_late first clock ats none

too_soon : (first clock at : ℕ) → clock < 600 → is_late first clock at ≡ false
too_soon first clock at lt = grind (arith, nat_tests)

too_new : (first clock at : ℕ) → 600 ≤ clock → clock - 600 < first → is_late first clock at ≡ false
too_new first clock at le lt = grind (arith, nat_tests)

pub none_soon : (first clock : ℕ) (ats : List ℕ) → clock < 600 → filter (is_late first clock) ats ≡ []
none_soon first clock ats lt = none_late first clock ats (λ at. too_soon first clock at lt)

pub none_new : (first clock : ℕ) (ats : List ℕ) → 600 ≤ clock → clock - 600 < first → filter (is_late first clock) ats ≡ []
none_new first clock ats le lt = none_late first clock ats (λ at. too_new first clock at le lt)

-- those of a range
late_between : (first clock at : ℕ) → 600 ≤ clock → range_contains nat_cmp (Included first) (Included (clock - 600)) at ≡ is_late first clock at
late_between first clock at le = by_order (nat_cmp first at) (ranks first at) (nat_cmp (clock - 600) at) (ranks (clock - 600) at)
  where
    by_order : (o : Ordering) → MatchOrdering o (first < at) (first ≡ at) (at < first)
        → (p : Ordering) → MatchOrdering p (clock - 600 < at) (clock - 600 ≡ at) (at < clock - 600)
        → (is_le o && not (is_lt p)) ≡ is_late first clock at
    by_order Less lt Less over = grind (arith, nat_tests)
    by_order Less lt Equal same = grind (arith, nat_tests)
    by_order Less lt Greater under = grind (arith, nat_tests)
    by_order Equal is Less over = grind (arith, nat_tests)
    by_order Equal is Equal same = grind (arith, nat_tests)
    by_order Equal is Greater under = grind (arith, nat_tests)
    by_order Greater gt Less over = grind (arith, nat_tests)
    by_order Greater gt Equal same = grind (arith, nat_tests)
    by_order Greater gt Greater under = grind (arith, nat_tests)

pub moments_between : {X : Type 0} (first clock : ℕ) (lists : List (ℕ × X)) → 600 ≤ clock
    → keys_of (entries_between nat_cmp (Included first) (Included (clock - 600)) lists) ≡ filter (is_late first clock) (keys_of lists)
moments_between first clock [] le = refl
moments_between {X} first clock (one ∷ lists) le =
    at_head (range_contains nat_cmp (Included first) (Included (clock - 600)) one.0) (is_late first clock one.0)
    (late_between first clock one.0 le) (moments_between first clock lists le)
  where
    rest : List (ℕ × X)
    rest = entries_between nat_cmp (Included first) (Included (clock - 600)) lists

    at_head : (a b : Bool) → a ≡ b → keys_of rest ≡ filter (is_late first clock) (keys_of lists)
        → keys_of (if a then one ∷ rest else rest)
        ≡ (if b then one.0 ∷ filter (is_late first clock) (keys_of lists) else filter (is_late first clock) (keys_of lists))
    at_head true true e same = ap (λ ats. one.0 ∷ ats) same
    at_head false false e same = same
    at_head true false e same = absurd cc
    at_head false true e same = absurd cc

-- whether a moment, if there is one, was long enough ago
abbrev is_late_at : ℕ → ℕ → Option ℕ → Bool
is_late_at first clock None = false
is_late_at first clock (Some at) = is_late first clock at

never : (xs : List ℕ) → list_any (λ x. false) xs ≡ false
never [] = refl
never (x ∷ xs) = never xs

one_moment : (a b : ℕ) → is_at (nat_cmp a) b ≡ (a == b)
one_moment a b = by_order (nat_cmp a b) (ranks a b)
  where
    by_order : (o : Ordering) → MatchOrdering o (a < b) (a ≡ b) (b < a) → is_eq o ≡ (a == b)
    by_order Less lt = grind (arith, nat_tests)
    by_order Equal same = grind (arith, nat_tests)
    by_order Greater gt = grind (arith, nat_tests)

equal : (a b : ℕ) → (a == b) ≡ true → a ≡ b
equal a b e = grind (arith, nat_tests)

-- A moment that has a list is found among the late moments where it is late.
found_late : (first clock : ℕ) (o : Option ℕ) (ms : List ℕ)
    → ((at : ℕ) → is_moment at o ≡ true → list_any (is_at (nat_cmp at)) ms ≡ true)
    → list_any (λ at. is_moment at o) (filter (is_late first clock) ms) ≡ is_late_at first clock o
found_late first clock None ms has = never (filter (is_late first clock) ms)
found_late first clock (Some m) ms has =
    any-filter_same (λ at. m == at) (is_late first clock) (is_late first clock m) (λ at e. ap (is_late first clock) (sym (equal m at e))) ms
    ∙ ap (λ b. is_late first clock m && b) (alike ms ∙ has m (itself m)) ∙ and_true (is_late first clock m)
  where
    itself : (n : ℕ) → (n == n) ≡ true
    itself n = grind (arith, nat_tests)

    and_true : (b : Bool) → (b && true) ≡ b
    and_true true = refl
    and_true false = refl

    alike : (ms : List ℕ) → list_any (λ at. m == at) ms ≡ list_any (is_at (nat_cmp m)) ms
    alike [] = refl
    alike (at ∷ ms) =
        ap (λ b. b || list_any (λ at. m == at) ms) (sym (one_moment m at)) ∙ ap (λ b. is_at (nat_cmp m) at || b) (alike ms)

-- a moment at which a key is listed is among the moments
has_list : (removals : Moments) (key : List ℕ) (at : ℕ) → is_listed key (keys_at removals at) ≡ true
    → list_any (is_at (nat_cmp at)) (keys removals) ≡ true
has_list removals key at is = sym (is_some-lookup (is_at (nat_cmp at)) removals.entries) ∙ some (lookup (is_at (nat_cmp at)) removals.entries) is
  where
    some : (o : Option (Vec (List ℕ))) → is_listed key (listed_in o) ≡ true → is_some o ≡ true
    some None e = absurd cc
    some (Some keys) e = refl

-- ---- among the slots

abbrev passes : (Slot → Bool) → Option Slot → Bool
passes f None = false
passes f (Some slot) = f slot

-- no slot of a key stands behind the first that has it
none_behind : (q : List ℕ) (e : List ℕ × Slot) (es : Entries) → IsStrictlySortedBy (slice_cmp nat_cmp) (keys_of (e ∷ es))
    → is_key q e.0 ≡ true → slot_at q es ≡ None
none_behind q e es sorted is =
    lookup-none (is_key q) es (none_past_head (eq_by_cmp_equiv key_order) q e es (IsDistinct-from_sorted (slice_cmp nat_cmp) _ sorted) is)

kept_keys : (f : Slot → Bool) (q : List ℕ) (es : Entries) → IsStrictlySortedBy (slice_cmp nat_cmp) (keys_of es)
    → list_any (is_key q) (keys_of (filter (λ e. f e.1) es)) ≡ passes f (slot_at q es)
kept_keys f q [] sorted = refl
kept_keys f q (e ∷ es) sorted =
    at_head (f e.1) refl (is_key q e.0) refl (kept_keys f q es (sorted_tail (slice_cmp nat_cmp) _ _ sorted))
  where
    first_of : (a b : Bool) → a ≡ true → (a || b) ≡ true
    first_of a b h = grind arith

    at_head : (a : Bool) → f e.1 ≡ a → (b : Bool) → is_key q e.0 ≡ b
        → list_any (is_key q) (keys_of (filter (λ e. f e.1) es)) ≡ passes f (slot_at q es)
        → list_any (is_key q) (keys_of (if a then e ∷ filter (λ e. f e.1) es else filter (λ e. f e.1) es))
        ≡ passes f (if b then Some e.1 else slot_at q es)
    at_head true h true k rest = first_of _ _ k ∙ sym h
    at_head true h false k rest = ap (λ b. b || list_any (is_key q) (keys_of (filter (λ e. f e.1) es))) k ∙ rest
    at_head false h true k rest = rest ∙ ap (passes f) (none_behind q e es sorted k) ∙ sym h
    at_head false h false k rest = rest

all_kept : (P : List ℕ → Type 0) (p : List ℕ × Slot → Bool) (es : Entries) → AllByRecursion P (keys_of es)
    → AllByRecursion P (keys_of (filter p es))
all_kept P p [] all = tt
all_kept P p (e ∷ es) all = at_head (p e) (all_kept P p es all.1)
  where
    at_head : (b : Bool) → AllByRecursion P (keys_of (filter p es))
        → AllByRecursion P (keys_of (if b then e ∷ filter p es else filter p es))
    at_head true rest = (all.0, rest)
    at_head false rest = rest

sorted_kept : (p : List ℕ × Slot → Bool) (es : Entries) → IsStrictlySortedBy (slice_cmp nat_cmp) (keys_of es)
    → IsStrictlySortedBy (slice_cmp nat_cmp) (keys_of (filter p es))
unfolding IsStrictlySortedBy
sorted_kept p [] sorted = tt
sorted_kept p (e ∷ es) sorted = at_head (p e) (sorted_kept p es sorted.1)
  where
    at_head : (b : Bool) → IsStrictlySortedBy (slice_cmp nat_cmp) (keys_of (filter p es))
        → IsStrictlySortedBy (slice_cmp nat_cmp) (keys_of (if b then e ∷ filter p es else filter p es))
    at_head true rest = (all_kept (λ k. slice_cmp nat_cmp e.0 k ≡ Less) p es sorted.0, rest)
    at_head false rest = rest

late_passes : (first clock : ℕ) (o : Option Slot) → is_late_at first clock (removed_at o) ≡ passes (is_timed_out first clock) o
late_passes first clock None = refl
late_passes first clock (Some slot) = at_kind (is_removal slot.kind)
  where
    at_kind : (b : Bool) → is_late_at first clock (if b then Some slot.taken_at else None) ≡ (b && is_late first clock slot.taken_at)
    at_kind true = refl
    at_kind false = refl

-- The keys that were found by the moments are those of the slots that have timed out.
pub due_is : (first clock : ℕ) (slots : Entries) (removals : Moments) (moments : List ℕ) (found : BTreeSet (List ℕ))
    → AreIndexed None slots removals → moments ≡ filter (is_late first clock) (keys removals)
    → ((q : List ℕ) → contains (slice_cmp nat_cmp) found q ≡ is_removed_among moments (slot_at q slots))
    → IsOrdered (slice_cmp nat_cmp) found → found.keys ≡ timed_out first clock slots
due_is first clock slots removals moments found are late finds ordered =
    btree_set_from_contains key_order found (record { keys = timed_out first clock slots }) ordered
    (sorted_kept (λ e. is_timed_out first clock e.1) slots are.ordered)
    (λ q. finds q ∙ ap (λ ms. is_removed_among ms (slot_at q slots)) late
    ∙ found_late first clock (removed_at (slot_at q slots)) (keys removals) (λ at e. has_list removals q at (are.listed q at e))
    ∙ late_passes first clock (slot_at q slots) ∙ sym (kept_keys (is_timed_out first clock) q slots are.ordered))
    exact_bytes
