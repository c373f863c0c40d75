-- A line of a script is accepted behind the lines that it stands behind.
use Rattle.std.proofs.Common.{◌≡◌, ℕ, ◌+◌, ◌<◌, ◌≤◌, List, [], ◌∷◌, true, false, eqb, not}
use Rattle.std.proofs.Common.{Some, None, refl, sym, ap, ◌∙◌, arith, bytes_eq, inl, inr}
use Rattle.std.specs.Option.{option_map_or}
use Rattle.std.proofs.lemmas.Bool.{or_from, le-ltb, lt-leb, cases_lt}
use Rattle.std.proofs.lemmas.Slice.Eq.{bytes_eq-Decides}
use Rattle.std.proofs.lemmas.Str.{is_utf8-from_IsUtf8}
use Rattle.gr_history.specs.declared.ask.Ask.{Ask}
use Rattle.gr_history.specs.declared.query_ask.QueryAsk.{QueryAsk}
use Rattle.gr_history.specs.declared.query_ask.QueryAsk.TheVariants as query
use Rattle.gr_oql.specs.Question.{Question}
use Rattle.gr_script.specs.declared.forms.LineKind.{LineKind}
use Rattle.gr_script.specs.declared.forms.LineKind.TheVariants as kind
use Rattle.gr_script.specs.declared.line.Act.{Act}
use Rattle.gr_script.specs.declared.line.Act.TheVariants.{Call, Query, Peek}
use Rattle.gr_script.specs.declared.line.Line.{Line}
use Rattle.gr_script.specs.declared.line.Line.TheVariants.{Step, Deliver, Report, Hear, Sweep, Join, Depart, Leave, Back}
use Rattle.gr_script.specs.declared.reason.Reason.TheVariants as reason
use Rattle.gr_script.specs.declared.saying.Saying.{Saying}
use Rattle.gr_script.specs.Absence.{asks}
use Rattle.gr_script.specs.Forms.{fields, rank}
use Rattle.gr_script.specs.Operations.{Wording, WithKey, WithValue, WithPair, wording}
use Rattle.gr_script.specs.Past.{setting, region, members, founders, home, steps, reports, joins, gifts, hears, count_of, stage}
use Rattle.gr_value.specs.KeyBytes.{IsKey}
use Rattle.gr_script.specs.Plain.{IsPlain}
use Rattle.gr_script.specs.Printed.{saying_in, act_saying, ask_saying, query_saying, wording_saying, IsLineKept, IsActKept, IsAskKept, IsQueryKept, IsWordingKept}
use Rattle.gr_script.specs.Printing.{saying_text}
use Rattle.gr_script.specs.Refusals.{asks as asks_here, delivery_tests, is_away, is_full, is_gone, is_no_join, last_moment, open_count, tests, refusal}
use Rattle.gr_script.specs.Rules.{IsHeading, IsWithin, IsStated, QuerySuits, ActSuits, StandsAfter, Stays, NamesStaying, Attends}
use Rattle.gr_script.specs.Said.{heading_said, lines_said}
use Rattle.gr_script.specs.Suiting.{IsShort, IsClient, IsOwnQuery, AllSuit}
use Rattle.gr_script.proofs.Accepted.{Accepts, late, two_tests, three_tests, four_tests, room_left, there_is, differing}
use Rattle.gr_script.proofs.Follows.{AllFollow}
use Rattle.gr_script.proofs.Gone.{departed_said, gone_said, hears_said}
use Rattle.gr_script.proofs.Standing.{asks_said}
use Rattle.gr_script.proofs.Tallied.{tallied}

last_rank : (form : LineKind) → rank form ≤ 8
last_rank kind.Georep = omega arith
last_rank _ = omega arith

last_stage : (past : List Saying) → stage past ≤ 8
last_stage [] = omega arith
last_stage (saying ∷ past) =
    let low = last_rank saying.kind in
    elim (cases_lt (rank saying.kind) 7) [
      | inl lt ↦ grind arith
      | inr le ↦ grind arith
    ]

module _ (past : List Saying) (whole : 4 ≤ stage past) where
  accept : (saying : Saying) → rank saying.kind ≡ 8 → AllSuit (setting past) (fields saying.kind) saying.items
      → refusal (tests past saying.kind saying.items) ≡ None → Accepts past saying
  accept saying is suit passes = record {
    suit = suit;
    due = late (stage past) (saying_text saying) whole;
    order = le-ltb (rank saying.kind) (stage past) (omega (arith, is, last_stage past));
    passes = passes;
  }

  -- a client's member hasn't departed
  abbrev pub IsHomeStaying : ℕ → Type 0
  IsHomeStaying client = is_gone (home client past) past ≡ false

  -- and it is there
  abbrev pub IsThere : ℕ → Type 0
  IsThere client = is_away client past ≡ false

  step_accepts : (saying : Saying) → rank saying.kind ≡ 8 → (client : ℕ)
      → tests past saying.kind saying.items ≡ (is_gone (home client past) past, reason.Gone) ∷ (is_away client past, reason.Away) ∷ []
      → AllSuit (setting past) (fields saying.kind) saying.items → IsHomeStaying client × IsThere client → Accepts past saying
  step_accepts saying is client tests_are suit stays =
      accept saying is suit (ap refusal tests_are ∙ two_tests _ _ reason.Gone reason.Away stays.0 stays.1)

  wording_accepts : (client : ℕ) (w : Wording) → IsClient (setting past) client → IsHomeStaying client × IsThere client → IsWordingKept w
      → Accepts past (wording_saying client w)
  wording_accepts client (WithKey operation key) c s kept =
      step_accepts (wording_saying client (WithKey operation key)) refl client refl (c, (tt, (kept, tt))) s
  wording_accepts client (WithValue operation key value) c s kept =
      step_accepts (wording_saying client (WithValue operation key value)) refl client refl (c, (tt, (kept.0, (kept.1, tt)))) s
  wording_accepts client (WithPair operation key old new) c s kept =
      step_accepts (wording_saying client (WithPair operation key old new)) refl client refl
      (c, (tt, (kept.0, (kept.1, (kept.2, tt))))) s

  ask_accepts : (client : ℕ) (asked : Ask) → IsClient (setting past) client → IsHomeStaying client × IsThere client → IsAskKept asked
      → Accepts past (ask_saying client asked)
  ask_accepts client asked c s kept = wording_accepts client (wording asked) c s kept

  peek_accepts : (client : ℕ) (key : List ℕ) → IsClient (setting past) client → IsHomeStaying client × IsThere client → IsKey key
      → Accepts past (act_saying client (Peek key))
  peek_accepts client key c s kept = step_accepts (act_saying client (Peek key)) refl client refl (c, (tt, (kept, tt))) s

  pub plain_accepts : (client : ℕ) (act : Act) → IsClient (setting past) client → IsHomeStaying client × IsThere client → IsPlain act
      → IsActKept act
      → Accepts past (act_saying client act)
  plain_accepts client (Call asked) c s plain kept = ask_accepts client asked c s kept
  plain_accepts client (Query asked) c s plain kept = absurd plain
  plain_accepts client (Peek key) c s plain kept = peek_accepts client key c s kept

  pub delivery_accepts : (to client seq : ℕ) → AllSuit (setting past) (fields kind.Deliver) (saying_in (Deliver to client seq)).items
      → refusal (delivery_tests past to client seq) ≡ None → Accepts past (saying_in (Deliver to client seq))
  delivery_accepts to client seq suit passes = accept (saying_in (Deliver to client seq)) refl suit passes

module _ (past : List Saying) (all : AllFollow past) (head : IsHeading (heading_said past))
    (named : region past ≡ Some (heading_said past).region) (whole : 4 ≤ stage past) where
  client_suits : (client : ℕ) → IsStated client (heading_said past) → IsClient (setting past) client
  client_suits client is = ((is.0, omega (arith, is.1, head.few_clients)), is.1)

  member_suits : (member : ℕ) → IsWithin 1 (members past) member → IsWithin 1 (members past) member × IsShort member
  member_suits member is = (is, omega (arith, is.1, head.members.1))

  few_queries : asks (lines_said past) < 10000 → is_full 10000 (asks_here past) ≡ false
  few_queries less = room_left 10000 (asks_here past) _ (asks_said past all) less

  own_query : (asked : Question) → asked.asked.region ≡ (heading_said past).region
      → option_map_or (λ own. bytes_eq asked.asked.region own) (region past) false ≡ true
  own_query asked same =
      ap (λ r. option_map_or (λ own. bytes_eq asked.asked.region own) r false) named
      ∙ (bytes_eq-Decides asked.asked.region (heading_said past).region).1 same

  stays_said : (member : ℕ) → Stays (lines_said past) member → is_gone member past ≡ false
  stays_said member stays = sym (gone_said past all member) ∙ stays

  query_accepts : (client : ℕ) (asked : QueryAsk) → IsClient (setting past) client
      → Stays (lines_said past) (home client past) × IsThere past whole client
      → QuerySuits (heading_said past) (lines_said past) asked → IsQueryKept asked → Accepts past (query_saying client asked)
  query_accepts client (query.Enrol name text) c s suits kept =
      let own : IsOwnQuery (setting past) text = record {
        spelled = kept.1;
        readable = is_utf8-from_IsUtf8 text.text kept.2;
        own = own_query text suits.0;
        rest = suits.3;
      } in
      let few_open = room_left 16 (count_of kind.Open past) _ (tallied (λ m. m.opened) 0 past refl all) suits.1 in
      accept past whole (query_saying client (query.Enrol name text)) refl (c, (tt, (kept.0, (own, tt))))
      (three_tests _ _ _ reason.Gone reason.Away reason.Count (stays_said (home client past) s.0) s.1
      (or_from _ _ few_open (few_queries suits.2)))
  query_accepts client (query.Stop name) c s suits kept =
      accept past whole (query_saying client (query.Stop name)) refl (c, (tt, (kept, tt)))
      (three_tests _ _ _ reason.Gone reason.Away reason.Count (stays_said (home client past) s.0) s.1 (few_queries suits))
  query_accepts client (query.Close name) c s suits kept =
      accept past whole (query_saying client (query.Close name)) refl (c, (tt, (kept, tt)))
      (three_tests _ _ _ reason.Gone reason.Away reason.Count (stays_said (home client past) s.0) s.1 (few_queries suits))
  query_accepts client (query.Fetch name) c s suits kept =
      accept past whole (query_saying client (query.Fetch name)) refl (c, (tt, (kept, tt)))
      (three_tests _ _ _ reason.Gone reason.Away reason.Count (stays_said (home client past) s.0) s.1 (few_queries suits))

  act_accepts : (client : ℕ) (act : Act) → IsClient (setting past) client
      → Stays (lines_said past) (home client past) × IsThere past whole client
      → ActSuits (heading_said past) (lines_said past) act → IsActKept act → Accepts past (act_saying client act)
  act_accepts client (Call asked) c s suits kept = ask_accepts past whole client asked c (stays_said (home client past) s.0, s.1) kept
  act_accepts client (Query asked) c s suits kept = query_accepts client asked c s suits kept
  act_accepts client (Peek key) c s suits kept = peek_accepts past whole client key c (stays_said (home client past) s.0, s.1) kept

  pub line_accepts : (line : Line) → StandsAfter (heading_said past) (lines_said past) line
      → NamesStaying (heading_said past) (lines_said past) line → Attends (lines_said past) line → IsLineKept line
      → Accepts past (saying_in line)
  line_accepts (Step client seq act) stands names here kept = act_accepts client act (client_suits client stands.0) (names, here) stands.2 kept
  line_accepts (Deliver to client seq) stands names here kept =
      delivery_accepts past whole to client seq (tt, (member_suits to stands.0, ((client_suits client stands.1, kept), tt)))
      (three_tests _ _ _ reason.Later reason.Itself reason.Gone
      (there_is seq (steps client past) _ (tallied (λ m. m.step) client past refl all) stands.2)
      (differing (eqb to (home client past)) stands.3) (stays_said to names))
  line_accepts (Report member) stands names here kept =
      accept past whole (saying_in (Report member)) refl (tt, (member_suits member stands.0, tt))
      (two_tests _ _ reason.Gone reason.Count (stays_said member names)
      (room_left 200 (count_of kind.Report past) _ (tallied (λ m. m.report) 0 past refl all) stands.1))
  line_accepts (Hear by of number) stands names here kept =
      accept past whole (saying_in (Hear by of number)) refl
      (tt, (member_suits by stands.0, (member_suits of stands.1, (kept, tt))))
      (four_tests _ _ _ _ reason.Later reason.Itself reason.Gone reason.Count
      (there_is number (reports of past) _ (tallied (λ m. m.report_of) of past refl all) stands.2)
      (differing (eqb by of) stands.3) (stays_said by names)
      (room_left 1400 (hears past) _ (hears_said past all) stands.4))
  line_accepts (Sweep member moment) stands names here kept =
      accept past whole (saying_in (Sweep member moment)) refl
      (tt, (member_suits member stands.0, (((omega arith, stands.1), omega (arith, stands.1)), tt)))
      (two_tests _ _ reason.Gone reason.Count (stays_said member names) (or_from _ _
      (room_left 10000 (count_of kind.Sweep past) _ (tallied (λ m. m.sweep) 0 past refl all) stands.2)
      (le-ltb 1400 (hears past + count_of kind.Depart past)
      (omega (arith, stands.3, hears_said past all, departed_said past all)))))
  line_accepts (Join member from) stands names here kept =
      let founder = head.founders in
      let none : joins member past ≡ 0 = sym (tallied (λ m. m.join_of) member past refl all) ∙ stands.3 in
      let test : is_no_join member from past ≡ false = or_from _ _ (or_from _ _ (lt-leb member (founders past) stands.0)
      (ap (λ n. not (eqb n 0)) none)) (le-ltb (founders past) from stands.2.1) in
      accept past whole (saying_in (Join member from)) refl (
        tt,
        (
          member_suits member (omega (arith, stands.0), stands.1),
          (member_suits from (stands.2.0, omega (arith, stands.2.1, founder.1)), tt),
        ),
      )
      (two_tests _ _ reason.Join reason.Gone test (or_from _ _ (stays_said member names.0) (stays_said from names.1)))
  line_accepts (Depart member) stands names here kept =
      let none : gifts member past ≡ 0 = sym (tallied (λ m. m.join_from) member past refl all) ∙ stands.1 in
      accept past whole (saying_in (Depart member)) refl (tt, (member_suits member stands.0, tt))
      (two_tests _ _ reason.Gone reason.Provider (stays_said member names) (ap (λ n. not (eqb n 0)) none))
  line_accepts (Leave client moment) stands names here kept =
      let early = stands.1 in
      accept past whole (saying_in (Leave client moment)) refl
      (client_suits client stands.0, (tt, (((omega arith, early), omega (arith, early)), tt)))
      (two_tests _ _ reason.Gone reason.Away (stays_said (home client past) names)
      (or_from _ _ here.0 (le-ltb moment (last_moment client past) here.1)))
  line_accepts (Back client moment) stands names here kept =
      let early = stands.1 in
      accept past whole (saying_in (Back client moment)) refl
      (client_suits client stands.0, (tt, (((omega arith, early), omega (arith, early)), tt)))
      (three_tests _ _ _ reason.Gone reason.Away reason.Count (stays_said (home client past) names)
      (or_from _ _ (ap not here.0) (le-ltb moment (last_moment client past) here.1))
      (le-ltb 10000 (asks_here past + open_count client past) (omega (arith, stands.2, asks_said past all))))
