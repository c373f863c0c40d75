-- Each script's course keeps the laws, and its clients are served.
use Rattle.std.proofs.Common.{◌≡◌, ◌⊎◌, ℕ, ◌<◌, ◌≤◌, List, [], ◌∷◌, Bool, true, false, ◌&&◌, ◌==◌, refl, sym, ap, ◌∙◌, subst, inl, inr, arith}
use Rattle.std.proofs.Common.{length, filter, reverse, if◌then◌else◌}
use Rattle.std.specs.Prelude.{Option, Some, None, nat_lt, ◌%◌}
use Rattle.std.proofs.lemmas.List.{reverse-reverse}
use Rattle.gr_value.specs.Shard.{shard_of, key_hash}
use Rattle.gr_history.specs.Asks.{key_of}
use Rattle.gr_history.specs.Deeds.{is_of_client}
use Rattle.gr_history.specs.declared.deed.Deed.{Deed}
use Rattle.gr_history.specs.declared.deed.Deed.TheVariants.{Call, Asked, Taken, Gave, Imaged, Reported, Heard, Swept}
use Rattle.gr_history.specs.declared.record.Answer.{Answer}
use Rattle.gr_history.specs.declared.record.ClientRecord.{ClientRecord}
use Rattle.gr_law.specs.Grids.{Among}
use Rattle.gr_script.specs.declared.line.Act.TheVariants as act
use Rattle.gr_script.specs.declared.line.Line.{Line}
use Rattle.gr_script.specs.declared.line.Line.TheVariants.{Step, Deliver, Hear, Sweep, Join, Depart, Leave, Back}
use Rattle.gr_script.specs.declared.line.Line.TheVariants as line
use Rattle.gr_script.specs.Rules.{Heading, IsHeading, IsScript, IsStated, AllStand, StandsAfter, home_of}
use Rattle.gr_script.specs.Steps.{departed}
use Rattle.gr_world.specs.Courses.{course}
use Rattle.gr_world.specs.Causes.{grid_at, IsCausal}
use Rattle.gr_world.specs.Clients.{add_some, Wish, OfKey, OfQuery, Asking, asking_of, askings, asked_at, asked}
use Rattle.gr_world.specs.Events.{Event, history}
use Rattle.gr_world.specs.Histories.{IsLawAbiding}
use Rattle.gr_world.specs.Records.{client_left, clients_left}
use Rattle.gr_world.specs.Grids.{Histories}
use Rattle.gr_world.specs.Served.{number_in, IsPeek, IsServed, ArePlaced, client_of, AreServed, FollowsLines}
use Rattle.gr_world.proofs.Abiding.{parted_abiding}
use Rattle.gr_world.proofs.Whole.{heard_course}
use Rattle.gr_world.proofs.Parted.{parted_course}
use Rattle.gr_world.proofs.Causal.{course_causal}
use Rattle.gr_world.proofs.Clients.{calls_stand-holds}
use Rattle.gr_world.proofs.Events.{equal_numbers}
use Rattle.gr_world.proofs.Late.{peeks_late, peeks_grow}
use Rattle.gr_world.proofs.Lists.{numbers_same}
use Rattle.gr_world.proofs.Peeks.{peeks_stand}
use Rattle.gr_world.proofs.Serving.{served_in, served_steps, served_replies, served_answers, served_deeds, peek_stood}

pub script_causal : (heading : Heading) (lines : List Line) → IsScript heading lines
    → IsCausal heading (departed (reverse lines)) (course heading (reverse lines))
script_causal heading lines is = course_causal heading (reverse lines) is.heading is.lines_stand

pub script_abiding : (heading : Heading) (lines : List Line) → IsScript heading lines → (shard : ℕ)
    → IsLawAbiding (departed (reverse lines)) (grid_at heading shard (course heading (reverse lines)))
script_abiding heading lines is shard =
    parted_abiding (departed (reverse lines)) (grid_at heading shard (course heading (reverse lines)))
    (parted_course heading (reverse lines) is.heading is.lines_stand is.names_staying shard)
    (λ member. heard_course heading (departed (reverse lines)) (course heading (reverse lines)) (script_causal heading lines is) shard member)

-- ---- clients

no_asking : (asking : Asking) → None ≡ Some asking → ⊥
no_asking asking e = cc

among_some : {A : Type 0} → (x : A) (o : Option A) (rest : List A) → Among x rest → Among x (add_some o rest)
among_some x None rest a = a
among_some x (Some first) rest a = inr a

some_or_among : {A : Type 0} → (x : A) (o : Option A) (rest : List A) → Among x (add_some o rest) → (o ≡ Some x) ⊎ Among x rest
some_or_among x None rest a = inr a
some_or_among x (Some first) rest (inl is) = inl (ap (λ z. Some z) (sym is))
some_or_among x (Some first) rest (inr a) = inr a

-- the histories of a course
abbrev pub histories_at : List Event → Histories
histories_at events member shard = history member shard events

abbrev asking_by : ℕ → ℕ → Wish → Asking
asking_by client number ask = record { client = client; number = number; ask = ask }

asking_in : (deed : Deed) (past : List Deed) (client number : ℕ) → Among deed past → number_in client deed ≡ Some number
    → (ask : Wish) × Among (asking_by client number ask) (askings past)
asking_in deed [] client number a is = absurd a
asking_in deed (first ∷ past) client number (inl same) is = at_deed first (sym (ap (number_in client) same) ∙ is)
  where
    Found : Deed → Type 0
    Found d = (ask : Wish) × Among (asking_by client number ask) (add_some (asking_of d) (askings past))

    no : None ≡ Some number → ⊥
    no e = cc

    named : (own seq : ℕ) → own ≡ client → Some seq ≡ Some number → (ask : Wish)
        → asking_by client number ask ≡ asking_by own seq ask
    named own seq same e ask =
        ap (λ c. asking_by c number ask) (sym same) ∙ ap (λ n. asking_by own n ask) (sym (one_number seq number e))
      where
        one_number : (a b : ℕ) → Some a ≡ Some b → a ≡ b
        one_number a b e = cc

    at_deed : (d : Deed) → number_in client d ≡ Some number → Found d
    at_deed (Call own to seq ask reply made) e = at_own (own == client) refl e
      where
        at_own : (b : Bool) → (own == client) ≡ b → (if b then Some seq else None) ≡ Some number → Found (Call own to seq ask reply made)
        at_own true is e = (OfKey ask, inl (named own seq (equal_numbers own client is) e (OfKey ask)))
        at_own false is e = absurd (no e)
    at_deed (Asked own seq ask reply) e = at_own (own == client) refl e
      where
        at_own : (b : Bool) → (own == client) ≡ b → (if b then Some seq else None) ≡ Some number → Found (Asked own seq ask reply)
        at_own true is e = (OfQuery ask, inl (named own seq (equal_numbers own client is) e (OfQuery ask)))
        at_own false is e = absurd (no e)
    at_deed (Taken change verdict) e = absurd (no e)
    at_deed (Gave to what) e = absurd (no e)
    at_deed (Imaged image) e = absurd (no e)
    at_deed (Reported report) e = absurd (no e)
    at_deed (Heard report) e = absurd (no e)
    at_deed (Swept moment expired) e = absurd (no e)
asking_in deed (first ∷ past) client number (inr a) is =
    let found = asking_in deed past client number a is in
    (found.0, among_some (asking_by client number found.0) (asking_of first) (askings past) found.1)

-- What the lines ask somewhere is asked by a client of the script, at its member.
asked_stated : (heading : Heading) (member shard : ℕ) (past : List Line) → AllStand heading past → (asking : Asking)
    → Among asking (asked heading member shard past) → IsStated asking.client heading × (member ≡ home_of heading asking.client)
asked_stated heading member shard [] stand asking a = absurd a
asked_stated heading member shard (last ∷ past) stand asking a =
    at_line last stand.0 (λ b. asked_stated heading member shard past stand.1 asking b)
    (some_or_among asking (asked_at heading member shard last) (asked heading member shard past) a)
  where
    Goal : Type 0
    Goal = IsStated asking.client heading × (member ≡ home_of heading asking.client)

    at_test : (one other : Bool) (own : ℕ) (mine : Asking) → mine.client ≡ own → IsStated own heading
        → (other ≡ true → member ≡ home_of heading own)
        → (if one && other then Some mine else None) ≡ Some asking → Goal
    at_test true true own mine of_own stated home e =
        let same : own ≡ asking.client = sym of_own ∙ ap (λ a. a.client) (same_asking mine asking e) in
        (subst (λ c. IsStated c heading) same stated, subst (λ c. member ≡ home_of heading c) same (home refl))
      where
        same_asking : (a b : Asking) → Some a ≡ Some b → a ≡ b
        same_asking a b e = cc
    at_test true false own mine of_own stated home e = absurd (no_asking asking e)
    at_test false other own mine of_own stated home e = absurd (no_asking asking e)

    at_line : (l : Line) → StandsAfter heading past l → (Among asking (asked heading member shard past) → Goal)
        → (asked_at heading member shard l ≡ Some asking) ⊎ Among asking (asked heading member shard past) → Goal
    at_line l stands next (inr a) = next a
    at_line (Step own number (act.Call ask)) stands next (inl is) =
        at_test (shard == shard_of (key_of ask) heading.shards) (member == home_of heading own) own _ refl stands.0
        (λ e. equal_numbers member (home_of heading own) e) is
    at_line (Step own number (act.Query ask)) stands next (inl is) =
        at_test (nat_lt shard heading.shards) (member == home_of heading own) own _ refl stands.0
        (λ e. equal_numbers member (home_of heading own) e) is
    at_line (Step own number (act.Peek key)) stands next (inl is) = absurd (no_asking asking is)
    at_line (Deliver to of number) stands next (inl is) = absurd (no_asking asking is)
    at_line (line.Report of) stands next (inl is) = absurd (no_asking asking is)
    at_line (Hear to of number) stands next (inl is) = absurd (no_asking asking is)
    at_line (Sweep of moment) stands next (inl is) = absurd (no_asking asking is)
    at_line (Join joiner provider) stands next (inl is) = absurd (no_asking asking is)
    at_line (Depart of) stands next (inl is) = absurd (no_asking asking is)
    at_line (Leave client moment) stands next (inl is) = absurd (no_asking asking is)
    at_line (Back client moment) stands next (inl is) = absurd (no_asking asking is)

course_placed : (heading : Heading) (past : List Line) → AllStand heading past → ArePlaced heading (histories_at (course heading past))
course_placed heading past stand member shard client number deed within a is =
    let found = asking_in deed (history member shard (course heading past)) client number a is in
    asked_stated heading member shard past stand (asking_by client number found.0)
    (subst (Among (asking_by client number found.0)) (calls_stand-holds heading past member shard) found.1)

-- Each client was served what came of its steps.
course_serves : (heading : Heading) (past : List Line) → IsHeading heading → AllStand heading past → (client : ℕ)
    → IsServed heading (reverse past) (histories_at (course heading past)) client (served_in heading client past)
course_serves heading past is_heading stand client = record {
  steps = served_steps heading client past;
  replies = served_replies heading client past;
  deeds = λ shard within. served_deeds heading client shard within past;
  peeks = λ number peek a.
      let stood = peek_stood heading client number peek past a in
      let place = peeks_stand heading past is_heading stand client number peek stood in
      record {
        within = place.within;
        value_is = place.value_is;
        late = λ deed before earlier o is less.
            peeks_late heading past is_heading stand client number peek stood earlier deed before is o less;
      };
  growing = λ number earlier peek other a b same less.
      peeks_grow heading past is_heading stand client number earlier peek other
      (peek_stood heading client number peek past a) (peek_stood heading client earlier other past b) same less;
}

abbrev client_with : Heading → ℕ → List Answer → ClientRecord
client_with heading client told = record { client = client; member = home_of heading client; answers = told }

pub course_served : (heading : Heading) (past : List Line) → IsHeading heading → AllStand heading past
    → AreServed heading (reverse past) (histories_at (course heading past)) (clients_left heading (course heading past))
course_served heading past is_heading stand = record {
  served = λ client. served_in heading client past;
  answers = numbers_same 1 (length heading.clients) (client_left heading (course heading past))
      (client_of heading (λ client. served_in heading client past))
      (λ client low high. ap (client_with heading client) (served_answers heading client past));
  each = λ client stated. course_serves heading past is_heading stand client;
  placed = course_placed heading past stand;
}

pub script_served : (heading : Heading) (lines : List Line) → IsScript heading lines
    → AreServed heading lines (histories_at (course heading (reverse lines))) (clients_left heading (course heading (reverse lines)))
script_served heading lines is =
    subst (λ all. AreServed heading all (histories_at (course heading (reverse lines))) (clients_left heading (course heading (reverse lines))))
    (reverse-reverse lines) (course_served heading (reverse lines) is.heading is.lines_stand)

pub script_follows : (heading : Heading) (lines : List Line) → FollowsLines heading lines (histories_at (course heading (reverse lines)))
script_follows heading lines member shard within = calls_stand-holds heading (reverse lines) member shard

-- ---- of histories that are the same

pub follow_same : (heading : Heading) (lines : List Line) (one other : Histories)
    → ((member shard : ℕ) → shard < heading.shards → one member shard ≡ other member shard)
    → FollowsLines heading lines one → FollowsLines heading lines other
follow_same heading lines one other same follows member shard within =
    ap askings (sym (same member shard within)) ∙ follows member shard within

pub served_same : (heading : Heading) (lines : List Line) (one other : Histories) (clients : List ClientRecord) → 1 ≤ heading.shards
    → ((member shard : ℕ) → shard < heading.shards → one member shard ≡ other member shard)
    → AreServed heading lines one clients → AreServed heading lines other clients
served_same heading lines one other clients some same h = record {
  served = h.served;
  answers = h.answers;
  each = λ client stated. let s = h.each client stated in record {
    steps = s.steps;
    replies = s.replies;
    deeds = λ shard within. ap (λ past. filter (is_of_client client) (reverse past)) (sym (same (home_of heading client) shard within))
        ∙ s.deeds shard within;
    peeks = λ number peek a. subst (IsPeek client number peek)
        (same (home_of heading client) (shard_of peek.key heading.shards) (below (key_hash peek.key) heading.shards some))
        (s.peeks number peek a);
    growing = s.growing;
  };
  placed = λ member shard client number deed within a is.
      h.placed member shard client number deed within (subst (Among deed) (sym (same member shard within)) a) is;
}
  where
    below : (a n : ℕ) → 1 ≤ n → a % n < n
    below a n some = omega (arith, some)
