-- The heading of a script is read as that heading, and its text as the script.
use Rattle.std.proofs.Common.{◌≡◌, ℕ, ◌+◌, ◌≤◌, List, [], ◌∷◌, ◌++◌, length, reverse, map, false, cond, eqb, ltb}
use Rattle.std.proofs.Common.{not, All}
use Rattle.std.proofs.Common.{Some, Ok, Err, refl, sym, ap, ◌∙◌, subst, arith, bytes_eq, append_assoc, length-append}
use Rattle.std.proofs.Common.{decimal, suc}
use Rattle.std.specs.List.{AllByRecursion}
use Rattle.std.proofs.lemmas.Bool.{le-ltb, eq-eqb}
use Rattle.std.proofs.lemmas.List.{reverse-reverse, append-nil}
use Rattle.std.proofs.lemmas.Slice.Eq.{bytes_eq-Decides}
use Rattle.gr_script.specs.declared.ending.ScriptEnd.TheVariants as end
use Rattle.gr_script.specs.declared.forms.LineKind.{LineKind}
use Rattle.gr_script.specs.declared.forms.LineKind.TheVariants as kind
use Rattle.gr_script.specs.declared.items.Item.TheVariants as item
use Rattle.gr_script.specs.declared.line.Line.{Line}
use Rattle.gr_script.specs.declared.reason.Reason.TheVariants as reason
use Rattle.gr_script.specs.declared.saying.Saying.{Saying}
use Rattle.gr_script.specs.Cuts.{line_count}
use Rattle.gr_script.specs.Fields.{first}
use Rattle.gr_script.specs.Forms.{word}
use Rattle.gr_script.specs.Past.{region, members, homes, stage}
use Rattle.gr_script.specs.Printed.{other_saying, saying_in, client_sayings, sayings_in, script_text, IsLineKept}
use Rattle.gr_script.specs.Printing.{spaced, saying_text}
use Rattle.gr_script.specs.Suiting.{IsShort}
use Rattle.gr_script.specs.Rules.{Heading, IsHeading, IsWithin, AreWithin, IsScript}
use Rattle.gr_script.specs.Said.{heading_said, lines_said, script_from, script_of}
use Rattle.gr_script.specs.Sayings.{sayings_from, sayings_of, end_of}
use Rattle.gr_script.specs.Texts.{lines_of}
use Rattle.gr_script.proofs.Accepted.{Accepts, one_test, late}
use Rattle.gr_script.proofs.Follows.{AllFollow}
use Rattle.gr_script.proofs.PrintedFields.{word_plain}
use Rattle.gr_script.proofs.PrintedLines.{front_is}
use Rattle.gr_script.proofs.ScriptBack.{Reads, Ready, MayStand, one_more, follow_more, lines_back, lines_again}
use Rattle.gr_script.specs.Limits.{most_lines}

-- ---- the clients

-- the heading with so many of its clients
abbrev pub with_clients : Heading → List ℕ → Heading
with_clients h clients = record h { clients = clients }

pub record Stated (h : Heading) (done : List ℕ) (past : List Saying) : Type 0 where
  pub follow : AllFollow past
  pub headed : heading_said past ≡ with_clients h done
  pub named : region past ≡ Some h.region
  pub now : stage past ≡ 7
  pub quiet : lines_said past ≡ []

client_accepts : (h : Heading) (done : List ℕ) (past : List Saying) (client member : ℕ) → IsHeading h → Stated h done past
    → length done + 1 ≡ client → client ≤ 64 → IsWithin 1 h.members member
    → Accepts past (other_saying kind.Client (item.Number client ∷ item.Word ∷ item.Member member ∷ []))
client_accepts h done past client member head stated next few within =
    let hosts : members past ≡ h.members = ap (λ (g : Heading). g.members) stated.headed in
    let count : length (homes past) + 1 ≡ client = ap (λ (g : Heading). length g.clients + 1) stated.headed ∙ next in
    record {
      suit = (
        tt,
        (
          ((omega (arith, next), few), omega (arith, few)),
          (tt, (((within.0, omega (arith, within.1, hosts)), omega (arith, within.1, head.members.1)), tt)),
        ),
      );
      due = late (stage past) (saying_text (other_saying kind.Client (item.Number client ∷ item.Word ∷ item.Member member ∷ [])))
          (omega (arith, stated.now));
      order = ap (λ n. ltb 7 n) stated.now;
      passes = one_test (not (eqb client (length (homes past) + 1))) reason.Order
          (ap not (eq-eqb client (length (homes past) + 1) (sym count)));
    }

pub clients_back : (h : Heading) (number client : ℕ) (done rest : List ℕ) (past : List Saying) (lines : List Line) → IsHeading h
    → Stated h done past → length done + 1 ≡ client → length done + length rest ≤ 64 → AreWithin 1 h.members rest
    → done ++ rest ≡ h.clients
    → MayStand h (reverse lines) → AllByRecursion IsLineKept lines
    → Reads number past (map saying_text (client_sayings client rest ++ map saying_in lines)) h (reverse lines)
clients_back h number client done [] past lines head stated next few within whole stand kept =
    let same : with_clients h done ≡ h = ap (with_clients h) (sym (append-nil done) ∙ whole) in
    let ready : Ready h past = record {
      follow = stated.follow;
      headed = stated.headed ∙ same;
      named = stated.named;
      whole = omega (arith, stated.now);
    } in
    let none : reverse lines ++ lines_said past ≡ reverse lines =
    ap (λ (ls : List Line). reverse lines ++ ls) stated.quiet ∙ append-nil (reverse lines) in
    subst (Reads number past (map saying_text (map saying_in lines)) h) none
    (lines_back h number past lines head ready (subst (MayStand h) (sym none) stand) kept)
clients_back h number client done (member ∷ rest) past lines head stated next few within whole stand kept =
    let saying : Saying = other_saying kind.Client (item.Number client ∷ item.Word ∷ item.Member member ∷ []) in
    let accepts = client_accepts h done past client member head stated next (omega (arith, next, few)) within.0 in
    let longer : Stated h (done ++ member ∷ []) (saying ∷ past) = record {
      follow = follow_more past saying accepts stated.follow;
      headed = ap (λ (g : Heading). with_clients g (g.clients ++ member ∷ [])) stated.headed;
      named = stated.named;
      now = refl;
      quiet = stated.quiet;
    } in
    one_more number past saying (map saying_text (client_sayings (client + 1) rest ++ map saying_in lines)) h (reverse lines) accepts
    (clients_back h (number + 1) (client + 1) (done ++ member ∷ []) rest (saying ∷ past) lines head longer
    (omega (arith, next, length-append done (member ∷ []))) (omega (arith, few, length-append done (member ∷ []))) within.1
    (append_assoc done (member ∷ []) rest ∙ whole) stand kept)

-- ---- the lines in front of them

due_by : (wanted text : List ℕ) → first text ≡ wanted → not (bytes_eq (first text) wanted) ≡ false
due_by wanted text same = ap not ((bytes_eq-Decides (first text) wanted).1 same)

due_word : (form : LineKind) (field : List ℕ) (more : List (List ℕ))
    → not (bytes_eq (first (spaced (word form ∷ field ∷ more))) (word form)) ≡ false
due_word form field more = due_by (word form) (spaced (word form ∷ field ∷ more)) (front_is (word form) (field ∷ more) (word_plain form))

abbrev version : Saying
version = other_saying kind.Georep (item.Word ∷ [])

abbrev size : LineKind → ℕ → Saying
size form number = other_saying form (item.Number number ∷ [])

version_accepts : Accepts [] version
version_accepts = record { suit = (tt, (tt, tt)); due = refl; order = refl; passes = refl }

module _ (h : Heading) (head : IsHeading h) where
  abbrev named_region : Saying
  named_region = other_saying kind.Region (item.Key h.region ∷ [])

  abbrev counted_members : Saying
  counted_members = other_saying kind.Members (item.Number h.members ∷ item.Number h.founders ∷ [])

  abbrev p1 : List Saying
  p1 = version ∷ []

  abbrev p2 : List Saying
  p2 = named_region ∷ version ∷ []

  abbrev p3 : List Saying
  p3 = counted_members ∷ named_region ∷ version ∷ []

  abbrev p4 : List Saying
  p4 = size kind.Shards h.shards ∷ counted_members ∷ named_region ∷ version ∷ []

  abbrev p5 : List Saying
  p5 = size kind.Inbox h.inbox ∷ size kind.Shards h.shards ∷ counted_members ∷ named_region ∷ version ∷ []

  abbrev p6 : List Saying
  p6 = size kind.Trouble h.trouble ∷ size kind.Inbox h.inbox ∷ size kind.Shards h.shards ∷ counted_members ∷ named_region ∷ version ∷ []

  abbrev p7 : List Saying
  p7 =
      size kind.Floor h.floor ∷ size kind.Trouble h.trouble ∷ size kind.Inbox h.inbox ∷ size kind.Shards h.shards ∷ counted_members
      ∷ named_region ∷ version ∷ []

  region_accepts : Accepts p1 named_region
  region_accepts = record {
    suit = (tt, (head.named, tt));
    due = due_word kind.Region h.region [];
    order = refl;
    passes = refl;
  }

  members_accepts : Accepts p2 counted_members
  members_accepts = record {
    suit = (
      tt,
      (
        (head.members, omega (arith, head.members.1)),
        (((head.founders.0, omega (arith, head.founders.1, head.members.1)), omega (arith, head.founders.1, head.members.1)), tt),
      ),
    );
    due = due_word kind.Members (decimal h.members) (decimal h.founders ∷ []);
    order = refl;
    passes = one_test (ltb h.members h.founders) reason.Range (le-ltb h.members h.founders head.founders.1);
  }

  shards_accepts : Accepts p3 (size kind.Shards h.shards)
  shards_accepts = record {
    suit = (tt, ((head.shards, omega (arith, head.shards.1)), tt));
    due = due_word kind.Shards (decimal h.shards) [];
    order = refl;
    passes = refl;
  }

  inbox_accepts : Accepts p4 (size kind.Inbox h.inbox)
  inbox_accepts = record { suit = (tt, ((head.inbox, omega (arith, head.inbox.1)), tt)); due = refl; order = refl; passes = refl }

  from_zero : {number most : ℕ} → number ≤ most → IsShort most → IsWithin 0 most number × IsShort number
  from_zero within short = ((omega arith, within), omega (arith, within, short))

  trouble_accepts : Accepts p5 (size kind.Trouble h.trouble)
  trouble_accepts = record { suit = (tt, (from_zero head.trouble (omega arith), tt)); due = refl; order = refl; passes = refl }

  floor_accepts : Accepts p6 (size kind.Floor h.floor)
  floor_accepts = record { suit = (tt, (from_zero head.floor (omega arith), tt)); due = refl; order = refl; passes = refl }

  all_stated : Stated h [] p7
  all_stated = record {
    follow =
        follow_more p6 _ floor_accepts (follow_more p5 _ trouble_accepts (follow_more p4 _ inbox_accepts (follow_more p3 _ shards_accepts
        (follow_more p2 _ members_accepts (follow_more p1 _ region_accepts (follow_more [] _ version_accepts tt))))));
    headed = refl;
    named = refl;
    now = refl;
    quiet = refl;
  }

  script_back : (lines : List Line) → MayStand h (reverse lines) → AllByRecursion IsLineKept lines
      → Reads 1 [] (map saying_text (sayings_in h lines)) h (reverse lines)
  script_back lines stand kept =
      let clients =
      clients_back h 8 1 [] h.clients p7 lines head all_stated refl
      (omega (arith, head.few_clients)) head.at_members refl stand kept in
      one_more 1 [] version _ h (reverse lines) version_accepts
      (one_more 2 p1 named_region _ h (reverse lines) region_accepts
      (one_more 3 p2 counted_members _ h (reverse lines) members_accepts
      (one_more 4 p3 (size kind.Shards h.shards) _ h (reverse lines) shards_accepts
      (one_more 5 p4 (size kind.Inbox h.inbox) _ h (reverse lines) inbox_accepts
      (one_more 6 p5 (size kind.Trouble h.trouble) _ h (reverse lines) trouble_accepts
      (one_more 7 p6 (size kind.Floor h.floor) _ h (reverse lines) floor_accepts clients))))))

-- ---- the whole

pub text_back : (h : Heading) (lines : List Line) → IsScript h lines → AllByRecursion IsLineKept lines
    → line_count (script_text h lines) ≤ most_lines → script_of false (script_text h lines) ≡ Ok (h, lines)
text_back h lines is kept few =
    let texts = map saying_text (sayings_in h lines) in
    let back = script_back h is.heading lines (is.lines_stand, is.names_staying, is.attended) kept in
    let text : lines_of (script_text h lines) ≡ texts = lines_again texts back.alone in
    let count = line_count (script_text h lines) in
    let whole : sayings_of false (script_text h lines) ≡ Ok back.all =
    ap (λ many. cond many (Err (end.TooManyLines count)) (end_of (sayings_from false 1 [] (lines_of (script_text h lines)))))
    (le-ltb most_lines count few)
    ∙ ap (λ ls. end_of (sayings_from false 1 [] ls)) text ∙ ap end_of back.read
    in
    ap script_from whole ∙ ap (λ (g : Heading). Ok (g, reverse (lines_said back.all))) back.headed
    ∙ ap (λ (ls : List Line). Ok (h, reverse ls)) back.said ∙ ap (λ (ls : List Line). Ok (h, ls)) (reverse-reverse lines)

pub each_kept : {X : Type 0} (P : X → Type 0) (items : List X) → All P items → AllByRecursion P items
each_kept P [] all = tt
each_kept P (item ∷ items) all =
    (all 0 item (omega arith), each_kept P items (λ place d within. all (suc place) d (omega (arith, within))))
