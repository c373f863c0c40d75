-- A query that runs was opened at an Opened deed of its history.
use Rattle.std.proofs.Common.{suc, ◌≡◌, ◌⊎◌, ℕ, List, [], ◌∷◌, Bool, true, false, ◌&&◌, ◌==◌, refl, sym, subst, inl, inr, ⊎_elim}
use Rattle.std.proofs.Common.{arith, bytes_eq, if◌then◌else◌}
use Rattle.std.specs.Prelude.{Some, None, length}
use Rattle.std.proofs.lemmas.Bool.Decides.{nat_tests}
use Rattle.std.proofs.lemmas.Slice.Eq.{bytes_eq-Decides}
use Rattle.gr_oql.specs.declared.event.Event.{Event}
use Rattle.gr_oql.specs.Question.{Question}
use Rattle.gr_history.specs.declared.query_reply.Row.{Row}
use Rattle.gr_history.specs.declared.query_ask.QueryAsk.{QueryAsk}
use Rattle.gr_history.specs.declared.query_ask.QueryAsk.TheVariants.{Enrol, Stop, Close, Fetch}
use Rattle.gr_history.specs.declared.query_reply.QueryReply.TheVariants.{Opened}
use Rattle.gr_history.specs.declared.deed.Deed.{Deed}
use Rattle.gr_history.specs.declared.deed.Deed.TheVariants.{Call, Taken, Gave, Imaged, Reported, Asked, Heard, Swept}
use Rattle.gr_history.specs.Queries.{name_of, asked_of, Opening, State, Neither, Running, Halted, after_asking, after_asked, state}
use Rattle.gr_history.specs.Queries.{waiting, answer, rows_of}
use Rattle.gr_law.specs.Queries.{IsLawfulAsked, IsAnswered, IsOpenedIn}

abbrev opening_of : Question → List Row → ℕ → Opening
opening_of question rows place = record { question = question; rows = rows; place = place }

opened_now : (client seq : ℕ) (name : List ℕ) (question : Question) (rows : List Row) (past : List Deed) (opening : Opening)
    → Running (opening_of question rows (suc (length past))) ≡ Running opening
    → IsOpenedIn client name opening (Asked client seq (Enrol name question) (Opened rows) ∷ past)
opened_now client seq name question rows past opening e =
    let same : opening_of question rows (suc (length past)) ≡ opening = cc in
    subst (λ o. IsOpenedIn client name o (Asked client seq (Enrol name question) (Opened rows) ∷ past)) same
    (record { past = past; seq = seq; opened = inl refl; place_is = refl })

earlier : (client : ℕ) (name : List ℕ) (opening : Opening) (deed : Deed) (past : List Deed) → IsOpenedIn client name opening past →
    IsOpenedIn client name opening (deed ∷ past)
earlier client name opening deed past h = record { past = h.past; seq = h.seq; opened = inr h.opened; place_is = h.place_is }

-- an answer leaves a query running, or opens it
answered : (client seq : ℕ) (ask : QueryAsk) (past : List Deed) (s : State) (all : List Event) (opening : Opening)
    → after_asking ask (answer ask past s all) (length past) s ≡ Running opening
    → (s ≡ Running opening) ⊎ IsOpenedIn client (name_of ask) opening (Asked client seq ask (answer ask past s all) ∷ past)
answered client seq (Enrol name question) past Neither all opening e = inr (opened_now client seq name question (rows_of question past)
    past opening e)
answered client seq (Stop name) past (Running one) all opening e = absurd (cc)
answered client seq (Close name) past (Running one) all opening e = absurd (cc)
answered client seq (Close name) past (Halted one stop) all opening e = absurd (cc)
answered client seq (Fetch name) past Neither all opening e = inl e
answered client seq (Fetch name) past (Running one) all opening e = inl e
answered client seq (Fetch name) past (Halted one stop) all opening e = inl e
answered client seq ask past s all opening e = inl e

at_deed : (client : ℕ) (name : List ℕ) (deed : Deed) (past : List Deed) (opening : Opening) → IsLawfulAsked deed past
    → after_asked (asked_of client name deed) (length past) (state client name past) ≡ Running opening
    → (state client name past ≡ Running opening) ⊎ IsOpenedIn client name opening (deed ∷ past)
at_deed client name (Asked own seq ask reply) past opening law e = at_query (own == client && bytes_eq (name_of ask) name) refl e
  where
    at_query : (b : Bool) → (own == client && bytes_eq (name_of ask) name) ≡ b
        → after_asked (if b then Some (record { ask = ask; reply = reply }) else None) (length past) (state client name past) ≡ Running
        opening
        → (state client name past ≡ Running opening) ⊎ IsOpenedIn client name opening (Asked own seq ask reply ∷ past)
    at_query true h e =
        let one : own ≡ client = grind (arith, nat_tests) in
        let two : bytes_eq (name_of ask) name ≡ true = grind arith in
        let named : name_of ask ≡ name = (bytes_eq-Decides (name_of ask) name).0 two in
        let moved : after_asking ask reply (length past) (state own (name_of ask) past) ≡ Running opening =
        subst (λ c. after_asking ask reply (length past) (state c (name_of ask) past) ≡ Running opening) (sym one)
        (subst (λ n. after_asking ask reply (length past) (state client n past) ≡ Running opening) (sym named) e) in
        let found : (state own (name_of ask) past ≡ Running opening) ⊎ IsOpenedIn own (name_of ask) opening (Asked own seq ask reply ∷
        past) =
        subst (λ r. (state own (name_of ask) past ≡ Running opening) ⊎ IsOpenedIn own (name_of ask) opening (Asked own seq ask r ∷ past))
        (sym law)
        (answered own seq ask past (state own (name_of ask) past) (waiting own (name_of ask) past) opening
        (subst (λ r. after_asking ask r (length past) (state own (name_of ask) past) ≡ Running opening) law moved)) in
        subst (λ c. (state c name past ≡ Running opening) ⊎ IsOpenedIn c name opening (Asked own seq ask reply ∷ past)) one
        (subst (λ n. (state own n past ≡ Running opening) ⊎ IsOpenedIn own n opening (Asked own seq ask reply ∷ past)) named found)
    at_query false h e = inl e
at_deed client name (Call own to seq ask reply made) past opening law e = inl e
at_deed client name (Taken change verdict) past opening law e = inl e
at_deed client name (Gave to what) past opening law e = inl e
at_deed client name (Imaged image) past opening law e = inl e
at_deed client name (Reported report) past opening law e = inl e
at_deed client name (Heard report) past opening law e = inl e
at_deed client name (Swept moment keys) past opening law e = inl e

pub running_opened : (client : ℕ) (name : List ℕ) (h : List Deed) → IsAnswered h → (opening : Opening) → state client name h ≡ Running
    opening
    → IsOpenedIn client name opening h
running_opened client name [] law opening e = absurd (cc)
running_opened client name (deed ∷ past) law opening e =
    ⊎_elim (λ before. earlier client name opening deed past (running_opened client name past law.1 opening before)) (λ here. here)
    (at_deed client name deed past opening law.0 e)
