-- A courier, as its callers see it.
use Rattle.std.specs.Prelude.{◌≡◌, ◌≢◌, ℕ, ◌≤◌, ◌<◌, ⊤, List, [], ◌∷◌, ◌++◌, length, slice_index_or, map, reverse}
use Rattle.std.specs.declared.vec.Vec.{Vec}
use Rattle.std.specs.Vec.{vec_capacity}
use Rattle.atomic_table.specs.Seated.{TableId}
use Rattle.gr_post.specs.declared.mail.Mail.{Mail}
use Rattle.gr_post.specs.declared.mail.Mail.TheVariants.{End}
use Rattle.gr_post.specs.declared.mail.Posting.{Posting}
use Rattle.gr_post.specs.declared.stage.Stage.{Stage}
use Rattle.gr_post.specs.declared.stage.Stage.TheVariants.{Open, Ended, Stopped}
use Rattle.gr_post.specs.Passes.{Ring, Sending}
use Rattle.gr_post.specs.Plan.{Draw, draws, number_after, held, released, delivered}
use Rattle.gr_post.specs.Lanes.{Way}
use Rattle.gr_value.specs.Counts.{Rose}

-- the line to one inbox: its pass, and what waits
pub record Line : Type 0 where
  pub pass : Sending
  pub waiting : List Mail

-- the lines to all inboxes, what was posted, the number with which the plan begins, and the stage
pub record Carrying : Type 0 where
  pub lines : List Line
  pub posted : List Posting
  pub first : ℕ
  pub stage : Stage

abbrev pub line_of : Way → Line
line_of way = record { pass = way.pass; waiting = way.waiting }

abbrev pub carrying : List Way → List Posting → ℕ → Stage → Carrying
carrying ways posted first stage = record { lines = map line_of ways; posted = posted; first = first; stage = stage }

abbrev pub passes_of : Carrying → List Sending
passes_of c = map (λ (l : Line). l.pass) c.lines

-- ---- the plan

-- what was sent and what waits are what the plan has released, and in the end all that it delivers
abbrev pub Follows : List Draw → Stage → List Mail → Type 0
Follows ds Open out = out ≡ released ds
Follows ds Ended out = out ≡ delivered ds
Follows ds Stopped out = ⊤

-- what goes to the inbox at place k, by the plan
abbrev pub draws_of : Carrying → ℕ → List Draw
draws_of c k = draws (length c.lines) c.first k (reverse c.posted)

abbrev pub FollowsPlan : Carrying → Type 0
FollowsPlan c = (k : ℕ) (d : Line) → k < length c.lines →
    let line = slice_index_or c.lines k d in
    Follows (draws_of c k) c.stage (line.pass.sent ++ line.waiting)

-- what is held back, while mails are posted
abbrev pub HoldsBack : List Draw → Stage → Way → Type 0
HoldsBack ds Open way = way.held ≡ held ds
HoldsBack ds Ended way = ⊤
HoldsBack ds Stopped way = ⊤

-- what holds of a courier always
pub record IsCarried (ways : List Way) (posted : List Posting) (first number : ℕ) (stage : Stage) : Type 0 where
  pub few : length ways ≤ 8
  pub number_is : number ≡ number_after (length ways) first (reverse posted)
  pub follows : (k : ℕ) (d : Way) → k < length ways →
      let way = slice_index_or ways k d in
      Follows (draws (length ways) first k (reverse posted)) stage (way.pass.sent ++ way.waiting)
  pub holds_back : (k : ℕ) (d : Way) → k < length ways →
      HoldsBack (draws (length ways) first k (reverse posted)) stage (slice_index_or ways k d)

-- there is room for the passes to come back
abbrev pub HasHome : {A B C D : Type 0} → Vec A B → Vec C D → Type 0
HasHome home lanes = (home.items ≡ []) × (length lanes.items ≤ vec_capacity home)

-- ---- calls

-- a courier at its beginning
abbrev pub begun : List Sending → ℕ → Carrying
begun passes first = record {
  lines = map (λ (p : Sending). let line : Line = record { pass = p; waiting = [] } in line) passes;
  posted = [];
  first = first;
  stage = Open;
}

-- after a mail was posted
abbrev pub posting : Carrying → Mail → ℕ → List Line → Carrying
posting c mail to lines =
    let one : Posting = record { mail = mail; to = to } in
    record c { lines = lines; posted = c.posted ++ one ∷ [] }

-- after the last mail
abbrev pub ended : Carrying → List Line → Carrying
ended c lines = record c { lines = lines; stage = Ended }

-- only an End waits
abbrev pub stopped_line : Line → Line
stopped_line line = record line { waiting = End ∷ [] }

-- each inbox is the one that the pass at its place is of
abbrev pub tables_of : Carrying → List TableId
tables_of c = map (λ (p : Sending). p.table) (passes_of c)

abbrev pub AreOf : List Ring → Carrying → Type 0
AreOf rings c = map (λ (r : Ring). r.table) rings ≡ tables_of c

-- the first of what waited was sent
pub record LineMoves (old new : Line) : Type 0 where
  pub gone : List Mail
  pub waiting : old.waiting ≡ gone ++ new.waiting
  pub pass : new.pass ≡ record old.pass { sent = old.pass.sent ++ gone; refused = new.pass.refused }
  pub rises : old.pass.refused ≤ new.pass.refused

-- the first of what waited was sent on each line, by the plan, and nothing else is changed
pub record IsPushed (old new : Carrying) : Type 0 where
  pub same : new ≡ record old { lines = new.lines }
  pub count : length new.lines ≡ length old.lines
  pub tables : tables_of new ≡ tables_of old
  pub moves : (k : ℕ) (d : Line) → k < length old.lines → LineMoves (slice_index_or old.lines k d) (slice_index_or new.lines k d)
  pub plan : FollowsPlan new

abbrev pub NothingWaits : List Line → Type 0
NothingWaits lines = (k : ℕ) (d : Line) → k < length lines → (slice_index_or lines k d).waiting ≡ []

-- No inbox is left without a try: at each place where something waits the count of refusals rose.
abbrev pub IsEachTried : List Line → List Line → Type 0
IsEachTried old new = (k : ℕ) (d : Line) → k < length new → (slice_index_or new k d).waiting ≢ [] →
    Rose (slice_index_or old k d).pass.refused (slice_index_or new k d).pass.refused

-- at some place something waits, and there the count of refusals rose
abbrev pub IsRefused : List Line → List Line → Type 0
IsRefused old new = (k : ℕ) × (k < length new) × ((d : Line) → ((slice_index_or new k d).waiting ≢ [])
    × Rose (slice_index_or old k d).pass.refused (slice_index_or new k d).pass.refused)
