use Rattle.std.proofs.Common.{refl, inr, subst}
use Rattle.gr_script.specs.declared.ending.ScriptEnd.{ScriptEnd}
use Rattle.gr_script.specs.Said.{script_of}
use Rattle.gr_script.specs.Sayings.{Ends}
use Rattle.gr_top.specs.Outcomes.{runs}
use Rattle.gr_top.proofs.Endings.{keeps_none, within}
use Rattle.gr_top.proofs.giving.cause_of.Goals as goal

pub returns-in-TooManyLines : goal.returns-in-TooManyLines
returns-in-TooManyLines c request source reads whole ends sink untouched = (
  reads,
  refl,
  inr (record {
    text = c.args.text.now;
    whole = whole;
    count = refl;
    many = subst (λ (end : ScriptEnd). Ends end (script_of (runs request) c.args.text.now)) c.in-TooManyLines.is ends;
  }),
  untouched,
)

pub returns-in-Fault : goal.returns-in-Fault
returns-in-Fault c request source reads whole ends sink untouched = (
  reads,
  refl,
  record {
    text = c.args.text.now;
    whole = whole;
    refused = subst (λ (end : ScriptEnd). Ends end (script_of (runs request) c.args.text.now)) c.in-Fault.is ends;
  },
  untouched,
)

pub returns-in-Memory : goal.returns-in-Memory
returns-in-Memory c request source reads whole ends sink untouched = (keeps_none request source reads, within source c.args.text.now whole, untouched)
