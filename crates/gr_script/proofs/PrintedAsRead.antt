-- A text's script is printed while it is read.
use Rattle.std.proofs.Common.{◌≡◌, ◌∙◌, ℕ, List, [], ◌∷◌, ◌++◌, reverse, flat_map, Option, Some, None, refl, sym, ap}
use Rattle.std.proofs.lemmas.List.{append-nil, flat_map_more, reverse-append}
use Rattle.gr_script.specs.declared.line.Line.{Line}
use Rattle.gr_script.specs.Printed.{heading_sayings, line_text}
use Rattle.gr_script.specs.Printing.{text_of_sayings}
use Rattle.gr_script.specs.Reprinted.{IsPrintOf}
use Rattle.gr_script.specs.Rules.{Heading}
use Rattle.gr_script.specs.Taken.{Taken, heading_taken, lines_taken, IsFed}
use Rattle.gr_script.proofs.PrintLemmas.{whole_printed}
use Rattle.gr_script.proofs.WhileRead.{IsReading, goes_on}

abbrev heading_text : Heading → List ℕ
heading_text heading = text_of_sayings (heading_sayings heading)

-- The heading was printed, and all lines but the one that is next.
pub record IsReprinting (text : List ℕ) (t : Taken) (next : Option Line) (out : List ℕ) : Type 0 where
  pub heading : Heading
  pub behind : List Line
  pub reading : IsReading text heading t next behind
  pub printed : out ≡ heading_text heading ++ flat_map line_text (reverse behind)

pub begins_printing : (text : List ℕ) (t : Taken) (next : Option Line) (out : List ℕ) → IsReading text (heading_taken t) t next []
    → out ≡ heading_text (heading_taken t) → IsReprinting text t next out
begins_printing text t next out reading is = record {
  heading = heading_taken t;
  behind = [];
  reading = reading;
  printed = is ∙ sym (append-nil (heading_text (heading_taken t)));
}

pub prints_on : (text : List ℕ) (old new : Taken) (line : Line) (next : Option Line) (out more : List ℕ)
    → IsReprinting text old (Some line) out → IsFed old new next → more ≡ out ++ line_text line → IsReprinting text new next more
prints_on text old new line next out more is fed longer =
    let front = heading_text is.heading in
    record {
      heading = is.heading;
      behind = line ∷ is.behind;
      reading = goes_on text is.heading old new line next is.behind is.reading fed;
      printed = longer ∙ ap (λ (t : List ℕ). t ++ line_text line) is.printed
          ∙ flat_map_more line_text front (reverse is.behind) line
          ∙ ap (λ (all : List Line). front ++ flat_map line_text all) (sym (reverse-append (line ∷ []) is.behind));
    }

pub all_printed : (text : List ℕ) (t : Taken) (out : List ℕ) → IsReprinting text t None out → IsPrintOf text out
all_printed text t out is =
    let heading = is.heading in
    let lines = reverse (lines_taken t) in
    record {
      script = record {
        region = heading.region;
        members = heading.members;
        founders = heading.founders;
        shards = heading.shards;
        inbox = heading.inbox;
        trouble = heading.trouble;
        floor = heading.floor;
        clients = heading.clients;
        lines = lines;
        ruled = is.reading.ruled;
      };
      says = is.reading.whole;
      printed_is = whole_printed heading lines (reverse is.behind) [] (heading_text heading) out refl
          (ap (λ (all : List Line). reverse all) (sym is.reading.lines)) refl is.printed;
    }
