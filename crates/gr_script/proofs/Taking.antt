-- What the lines say that were taken in, with one line more.
use Rattle.std.proofs.Common.{◌≡◌, ◌∙◌, ℕ, zero, suc, ◌+◌, ◌≤◌, ◌<◌, List, [], ◌∷◌, ◌++◌, length, take, drop, take-suc, drop-cons}
use Rattle.std.proofs.Common.{Bool, true, false, cond, Option, Some, None, Result, Ok, Err, refl, sym, ap, subst, arith, get_or}
use Rattle.std.specs.List.{AllByRecursion, cons_option}
use Rattle.std.proofs.lemmas.List.{length-take-le, length-drop}
use Rattle.gr_script.specs.declared.forms.LineKind.TheVariants as kind
use Rattle.gr_script.specs.declared.items.Setting.{Setting}
use Rattle.gr_script.specs.declared.line.Line.{Line}
use Rattle.gr_script.specs.declared.plain.Delivery.{Delivery}
use Rattle.gr_script.specs.declared.plain.PlainStep.{PlainStep}
use Rattle.gr_script.specs.declared.reason.Reason.{Reason}
use Rattle.gr_script.specs.declared.saying.Saying.{Saying}
use Rattle.gr_script.specs.Cuts.{is_skipped, text_said}
use Rattle.gr_script.specs.Forms.{fields}
use Rattle.gr_script.specs.Halts.{◌>>=◌}
use Rattle.gr_script.specs.Items.{text_at}
use Rattle.gr_script.specs.Kept.{CanBeKept}
use Rattle.gr_script.specs.Past.{home, setting, stage}
use Rattle.gr_script.specs.Plain.{IsPrinted, delivery_saying}
use Rattle.gr_script.specs.Printed.{act_saying}
use Rattle.gr_script.specs.Printing.{saying_text}
use Rattle.gr_script.specs.Refusals.{delivery_tests, is_away, is_gone, past_with, refusal, saying_at}
use Rattle.gr_script.specs.Said.{line_of, lines_said}
use Rattle.gr_script.specs.Sayings.{go_on, sayings_from}
use Rattle.gr_script.specs.Taken.{Taken, unless_longer, said_by, said, ahead, advanced, lines_taken, IsNext, IsTaken}
use Rattle.gr_script.specs.Suiting.{AllSuit, IsClient}
use Rattle.gr_script.specs.Texts.{lines_of, IsLine}
use Rattle.gr_script.proofs.Follows.{AllFollow, past_follows, with_length}
use Rattle.gr_script.proofs.Accepted.{past_read}
use Rattle.gr_script.proofs.LineAccepted.{delivery_accepts, plain_accepts}
use Rattle.gr_script.proofs.Narrowed.{can_be_kept}
use Rattle.gr_script.proofs.Plainly.{quiet}
use Rattle.gr_script.proofs.RestsRead.{lines_are_lines}
use Rattle.gr_script.specs.Limits.{most_lines}

-- ---- the first lines, and one more

pub record IsMore (n : ℕ) (xs : List (List ℕ)) (x : List ℕ) (rest : List (List ℕ)) : Type 0 where
  pub within : n < length xs
  pub taken : take (n + 1) xs ≡ take n xs ++ x ∷ []
  pub left : drop (n + 1) xs ≡ rest

some_left : (n : ℕ) (xs : List (List ℕ)) (x : List ℕ) (rest : List (List ℕ)) → drop n xs ≡ x ∷ rest → n < length xs
some_left n xs x rest is =
    let parts = length-drop n xs in
    let many = ap (length {A = List ℕ}) is in
    omega (arith, parts, many)

pub one_more : (n : ℕ) (xs : List (List ℕ)) (x : List ℕ) (rest : List (List ℕ)) → drop n xs ≡ x ∷ rest → IsMore n xs x rest
one_more n xs x rest is =
    let within = some_left n xs x rest is in
    let parted : x ∷ rest ≡ get_or xs n x ∷ drop (suc n) xs = sym is ∙ drop-cons xs n x within in
    let next : suc n ≡ n + 1 = omega arith in
    record {
      within = within;
      taken = ap (λ (m : ℕ). take m xs) (sym next) ∙ take-suc xs n x within ∙ ap (λ (y : List ℕ). take n xs ++ y ∷ []) (sym (first_is x _ rest _ parted));
      left = ap (λ (m : ℕ). drop m xs) (sym next) ∙ sym (rest_is x _ rest _ parted);
    }
  where
    first_is : (x y : List ℕ) (xs ys : List (List ℕ)) → x ∷ xs ≡ y ∷ ys → x ≡ y
    first_is x y xs ys e = cc

    rest_is : (x y : List ℕ) (xs ys : List (List ℕ)) → x ∷ xs ≡ y ∷ ys → xs ≡ ys
    rest_is x y xs ys e = cc

said_more : (runs : Bool) (past : List Saying) (lines : List (List ℕ)) (line : List ℕ)
    → said_by runs past (lines ++ line ∷ []) ≡ unless_longer (said_by runs past lines) (past_with runs (said_by runs past lines) line)
said_more runs past [] line = refl
said_more runs past (first ∷ lines) line = said_more runs (unless_longer past (past_with runs past first)) lines line

pub said_next : (t : Taken) (longer : List Saying) (after : List ℕ) → IsNext t longer after → said (advanced t) ≡ longer
said_next t longer after next =
    ap (said_by t.runs []) (one_more t.count (lines_of t.text) next.line (lines_of after) next.ahead_is).taken
    ∙ said_more t.runs [] (take t.count (lines_of t.text)) next.line
    ∙ ap (unless_longer (said t)) next.reads

pub ahead_next : (t : Taken) (longer : List Saying) (after : List ℕ) → IsNext t longer after → ahead (advanced t) ≡ lines_of after
ahead_next t longer after next = (one_more t.count (lines_of t.text) next.line (lines_of after) next.ahead_is).left

pub taken_next : (t : Taken) (longer : List Saying) (after : List ℕ) → IsTaken t → IsNext t longer after
    → IsTaken (advanced t)
taken_next t longer after is next =
    let more = one_more t.count (lines_of t.text) next.line (lines_of after) next.ahead_is in
    let within = more.within in
    let from : List Saying → List (List ℕ) → Result (List Saying) _ = sayings_from t.runs (t.count + 1 + 1) in
    record {
      few = is.few;
      within = omega (arith, within);
      same =
          ap (λ (past : List Saying). from past (ahead (advanced t))) (said_next t longer after next)
          ∙ ap (from longer) more.left
          ∙ sym
          (ap (λ (r : Result (List Saying) Reason). go_on (t.count + 1) r (λ all. from all (lines_of after))) next.reads)
          ∙ sym (ap (sayings_from t.runs (t.count + 1) (said t)) next.ahead_is)
          ∙ is.same;
    }

-- ---- all of them

unless_follows : (past : List Saying) (read : Result (List Saying) Reason)
    → ((longer : List Saying) → read ≡ Ok longer → AllFollow longer) → AllFollow past → AllFollow (unless_longer past read)
unless_follows past (Ok longer) follow all = follow longer refl
unless_follows past (Err why) follow all = all

by_follow : (runs : Bool) (past : List Saying) (lines : List (List ℕ)) → AllByRecursion IsLine lines → AllFollow past
    → AllFollow (said_by runs past lines)
by_follow runs past [] alone all = all
by_follow runs past (line ∷ lines) alone all =
    by_follow runs (unless_longer past (past_with runs past line)) lines alone.1
    (unless_follows past (past_with runs past line) (λ longer read. past_follows runs past line longer alone.0 read all) all)

first_lines : (n : ℕ) (lines : List (List ℕ)) → AllByRecursion IsLine lines → AllByRecursion IsLine (take n lines)
first_lines zero lines alone = tt
first_lines (suc n) [] alone = tt
first_lines (suc n) (line ∷ lines) alone = (alone.0, first_lines n lines alone.1)

last_lines : (n : ℕ) (lines : List (List ℕ)) → AllByRecursion IsLine lines → AllByRecursion IsLine (drop n lines)
last_lines zero lines alone = alone
last_lines (suc n) [] alone = tt
last_lines (suc n) (line ∷ lines) alone = last_lines n lines alone.1

-- Each line that was taken in suits the earlier ones.
pub taken_follow : (t : Taken) → AllFollow (said t)
taken_follow t = by_follow t.runs [] (take t.count (lines_of t.text)) (first_lines t.count _ (lines_are_lines t.text)) tt

by_few : (runs : Bool) (past : List Saying) (lines : List (List ℕ)) → length (said_by runs past lines) ≤ length past + length lines
by_few runs past [] = omega arith
by_few runs past (line ∷ lines) =
    let one = unless_few past (past_with runs past line) (with_length runs past line) in
    let rest = by_few runs (unless_longer past (past_with runs past line)) lines in
    omega (arith, one, rest)
  where
    unless_few : (past : List Saying) (read : Result (List Saying) Reason)
        → ((longer : List Saying) → read ≡ Ok longer → length longer ≤ length past + 1)
        → length (unless_longer past read) ≤ length past + 1
    unless_few past (Ok longer) few = few longer refl
    unless_few past (Err why) few = omega arith

-- They say no more than they are.
pub taken_few : (t : Taken) → IsTaken t → length (said t) ≤ t.count
taken_few t is =
    let few = by_few t.runs [] (take t.count (lines_of t.text)) in
    let long = length-take-le t.count (lines_of t.text) is.within in
    omega (arith, few, long)

pub room_left : (t : Taken) (longer : List Saying) (after : List ℕ) → IsTaken t → IsNext t longer after
    → length (said t) < most_lines
room_left t longer after is next =
    let said = taken_few t is in
    let within = (one_more t.count (lines_of t.text) next.line (lines_of after) next.ahead_is).within in
    omega (arith, said, within, is.few)

-- What a line says can be kept.
pub next_kept : (t : Taken) (saying : Saying) (after : List ℕ) → IsTaken t → IsNext t (saying ∷ said t) after → CanBeKept (said t) saying
next_kept t saying after is next =
    let left = subst (AllByRecursion IsLine) next.ahead_is (last_lines t.count _ (lines_are_lines t.text)) in
    let room = room_left t (saying ∷ said t) after is next in
    can_be_kept (said t) saying (past_follows t.runs (said t) next.line (saying ∷ said t) left.0 next.reads (taken_follow t))
    (omega (arith, room))

-- ---- lines of the script

-- A line that says something is the next one of the script, if it is one.
pub found_next : (t : Taken) (saying : Saying) (found : Option Line) (after : List ℕ) → IsNext t (saying ∷ said t) after
    → line_of (said t) saying ≡ found → lines_taken (advanced t) ≡ cons_option found (lines_taken t)
found_next t saying found after next is =
    ap lines_said (said_next t (saying ∷ said t) after next) ∙ ap (λ (l : Option Line). cons_option l (lines_taken t)) is

pub line_next : (t : Taken) (saying : Saying) (line : Line) (after : List ℕ) → IsNext t (saying ∷ said t) after
    → line_of (said t) saying ≡ Some line → lines_taken (advanced t) ≡ line ∷ lines_taken t
line_next t saying line after next is = found_next t saying (Some line) after next is

-- ---- what a line is

pub skips : (runs : Bool) (past : List Saying) (line whole text : List ℕ) → text_at line ≡ Ok whole → text ≡ text_said whole
    → is_skipped text ≡ true → past_with runs past line ≡ Ok past
skips runs past line whole text at is skipped =
    let of : List ℕ → Result (List Saying) Reason = λ t. cond (is_skipped t) (Ok past) (saying_at runs past t >>= λ saying. Ok (saying ∷ past)) in
    ap (λ (r : Result (List ℕ) Reason). r >>= λ l. of (text_said l)) at
    ∙ ap of (sym is)
    ∙ ap (λ (b : Bool). cond b (Ok past) (saying_at runs past text >>= λ saying. Ok (saying ∷ past))) skipped

pub says : (runs : Bool) (past : List Saying) (line whole text : List ℕ) (saying : Saying) → text_at line ≡ Ok whole
    → text ≡ text_said whole → is_skipped text ≡ false → saying_at runs past text ≡ Ok saying
    → past_with runs past line ≡ Ok (saying ∷ past)
says runs past line whole text saying at is said reads =
    let of : List ℕ → Result (List Saying) Reason = λ t. cond (is_skipped t) (Ok past) (saying_at runs past t >>= λ saying. Ok (saying ∷ past)) in
    ap (λ (r : Result (List ℕ) Reason). r >>= λ l. of (text_said l)) at
    ∙ ap of (sym is)
    ∙ ap (λ (b : Bool). cond b (Ok past) (saying_at runs past text >>= λ saying. Ok (saying ∷ past))) said
    ∙ ap (λ (r : Result Saying Reason). r >>= λ saying. Ok (saying ∷ past)) reads

pub is_next : (t : Taken) (line after : List ℕ) (longer : List Saying) → ahead t ≡ line ∷ lines_of after
    → past_with t.runs (said t) line ≡ Ok longer → IsNext t longer after
is_next t line after longer next reads = record { line = line; ahead_is = next; reads = reads }

-- A line that is printed for a step says that step.
pub printed_says : (runs : Bool) (past : List Saying) (line : List ℕ) (step : PlainStep) (set : Setting) → IsPrinted line step
    → 4 ≤ stage past → set ≡ setting past → IsClient set step.client → is_gone (home step.client past) past ≡ false
    → is_away step.client past ≡ false
    → past_with runs past line ≡ Ok (act_saying step.client step.act ∷ past)
printed_says runs past line step set printed whole is client stays here =
    ap (past_with runs past) printed.text
    ∙ past_read runs past (act_saying step.client step.act) (quiet runs step.client step.act printed.plain)
    (plain_accepts past whole step.client step.act (subst (λ (s : Setting). IsClient s step.client) is client) (stays, here) printed.plain
    printed.kept)

-- A line that is printed for a delivery says that delivery.
pub delivery_says : (past : List Saying) (line : List ℕ) (delivery : Delivery) → line ≡ saying_text (delivery_saying delivery)
    → 4 ≤ stage past → AllSuit (setting past) (fields kind.Deliver) (delivery_saying delivery).items
    → refusal (delivery_tests past delivery.to delivery.client delivery.seq) ≡ None
    → past_with false past line ≡ Ok (delivery_saying delivery ∷ past)
delivery_says past line delivery printed whole suit passes =
    ap (past_with false past) printed
    ∙ past_read false past (delivery_saying delivery) refl
    (delivery_accepts past whole delivery.to delivery.client delivery.seq suit passes)
