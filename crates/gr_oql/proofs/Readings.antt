-- How a reading went, and how it stopped.
use Rattle.std.proofs.Common.{◌≡◌, ◌⊎◌, List, Ok, Err, Bool, cond, true, false, inl, inr, refl, ap}
use Rattle.gr_oql.specs.declared.halt.Wrong.{Wrong}
use Rattle.gr_oql.specs.Terminals.{Terminal}
use Rattle.gr_oql.specs.Reader.Reading.{Reading, ◌>>=◌, read_as}

-- how a reading went
pub chosen : {X : Type 0} (b : Bool) (x y z : X) → cond b x y ≡ z → ((b ≡ true) × (x ≡ z)) ⊎ ((b ≡ false) × (y ≡ z))
chosen true x y z is = inl (refl, is)
chosen false x y z is = inr (refl, is)

pub bound : {A B : Type 0} (read : Reading A) (f : A × List Terminal → Reading B) (y : B) (left : List Terminal)
    → (read >>= f) ≡ Ok (y, left) → (x : A) × (middle : List Terminal) × (read ≡ Ok (x, middle)) × (f (x, middle) ≡ Ok (y, left))
bound (Ok x) f y left is = (x.0, x.1, refl, is)
bound (Err e) f y left is = absurd (cc)

pair_is : {A : Type 0} {p q : A × List Terminal} → ◌≡◌ {A = Reading A} (Ok p) (Ok q) → p ≡ q
pair_is same = cc

pub value_is : {A : Type 0} {a c : A} {k l : List Terminal} → ◌≡◌ {A = Reading A} (Ok (a, k)) (Ok (c, l)) → a ≡ c
value_is {A} same = ap (λ (p : A × List Terminal). p.0) (pair_is same)

pub left_is : {A : Type 0} {a c : A} {k l : List Terminal} → ◌≡◌ {A = Reading A} (Ok (a, k)) (Ok (c, l)) → k ≡ l
left_is {A} same = ap (λ (p : A × List Terminal). p.1) (pair_is same)

pub made_of : {A B : Type 0} (make : A → B) (read : Reading A) (y : B) (left : List Terminal) → read_as make read ≡ Ok (y, left) → (x : A)
    × (read ≡ Ok (x, left)) × (make x ≡ y)
made_of make (Ok x) y left is = (x.0, ap (λ (l : List Terminal). Ok (x.0, l)) (left_is is), value_is is)
made_of make (Err e) y left is = absurd (cc)

-- how a reading stopped
error_is : {A : Type 0} {d e : Wrong × List Terminal} → ◌≡◌ {A = Reading A} (Err d) (Err e) → d ≡ e
error_is same = cc

pub wrong_is : {A : Type 0} {v w : Wrong} {k l : List Terminal} → ◌≡◌ {A = Reading A} (Err (v, k)) (Err (w, l)) → v ≡ w
wrong_is same = ap (λ (e : Wrong × List Terminal). e.0) (error_is same)

pub place_is : {A : Type 0} {v w : Wrong} {k l : List Terminal} → ◌≡◌ {A = Reading A} (Err (v, k)) (Err (w, l)) → k ≡ l
place_is same = ap (λ (e : Wrong × List Terminal). e.1) (error_is same)

-- of two readers one behind the other, which one stopped
pub stopped : {A B : Type 0} (read : Reading A) (f : A × List Terminal → Reading B) (e : Wrong × List Terminal) → (read >>= f) ≡ Err e
    → (read ≡ Err e) ⊎ ((x : A) × (middle : List Terminal) × (read ≡ Ok (x, middle)) × (f (x, middle) ≡ Err e))
stopped (Ok x) f e is = inr (x.0, x.1, refl, is)
stopped {A} {B} (Err d) f e is = inl (ap (λ (c : Wrong × List Terminal). Err c) (error_is {A = B} is))

-- what is made of a value changes no stop
pub not_made : {A B : Type 0} (make : A → B) (read : Reading A) (e : Wrong × List Terminal) → read_as make read ≡ Err e → read ≡ Err e
not_made make (Ok x) e is = absurd (cc)
not_made {A} {B} make (Err d) e is = ap (λ (c : Wrong × List Terminal). Err c) (error_is {A = B} is)
