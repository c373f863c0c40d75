-- The rows are scripts.
use Rattle.std.proofs.Common.{ℕ, ◌≤◌, List, [], ◌∷◌, length, codes, refl, arith, reverse, subst, sym}
use Rattle.std.proofs.lemmas.List.{reverse-reverse}
use Rattle.gr_script.specs.declared.line.Line.{Line}
use Rattle.gr_script.specs.Rules.{Heading, heading, IsHeading, IsScript, IsWithin, AreWithin, AllStand, AllNameStaying, AllAttend}
use Rattle.gr_world.specs.Rows.{two_members, three_members, concurrent, repeated, joining}

-- two facts as one
infixr 10 ◌&◌
◌&◌ : {P Q : Type 0} → P → Q → P × Q
p & q = (p, q)

-- the heading of so many members, of which two are founders
small-heading : (members : ℕ) (clients : List ℕ) → IsWithin 2 8 members → length clients ≤ 64 → AreWithin 1 members clients
    → IsHeading (heading (codes "/r") members 2 1 16 0 0 clients)
small-heading members clients few few_clients at_members = record {
  named = refl;
  members = (omega (arith, few.0), few.1);
  founders = (omega arith, few.0);
  shards = (omega arith, omega arith);
  inbox = (omega arith, omega arith);
  trouble = omega arith;
  floor = omega arith;
  few_clients = few_clients;
  at_members = at_members;
}

two-heading : IsHeading two_members
two-heading = small-heading 2 (1 ∷ 2 ∷ []) (omega arith, omega arith) (omega arith)
    ((omega arith, omega arith) & (omega arith, omega arith) & tt)

three-heading : IsHeading three_members
three-heading = small-heading 3 (1 ∷ 2 ∷ 3 ∷ []) (omega arith, omega arith) (omega arith)
    ((omega arith, omega arith) & (omega arith, omega arith) & (omega arith, omega arith) & tt)

concurrent-stand : AllStand two_members concurrent
concurrent-stand =
    ((omega arith, omega arith), refl, tt)
    & ((omega arith, omega arith), (omega arith, omega arith), (omega arith, omega arith), refl)
    & ((omega arith, omega arith), (omega arith, omega arith), (omega arith, omega arith), refl)
    & ((omega arith, omega arith), refl, tt)
    & ((omega arith, omega arith), refl, tt)
    & tt

repeated-stand : AllStand two_members repeated
repeated-stand =
    ((omega arith, omega arith), (omega arith, omega arith), (omega arith, omega arith), refl)
    & ((omega arith, omega arith), (omega arith, omega arith), (omega arith, omega arith), refl)
    & ((omega arith, omega arith), refl, tt)
    & tt

joining-stand : AllStand three_members joining
joining-stand =
    ((omega arith, omega arith), refl, tt)
    & (omega arith, omega arith, (omega arith, omega arith), refl)
    & ((omega arith, omega arith), omega arith, omega arith, omega arith)
    & ((omega arith, omega arith), (omega arith, omega arith), (omega arith, omega arith), refl, omega arith)
    & ((omega arith, omega arith), (omega arith, omega arith), (omega arith, omega arith), refl, omega arith)
    & ((omega arith, omega arith), omega arith)
    & ((omega arith, omega arith), omega arith)
    & ((omega arith, omega arith), (omega arith, omega arith), (omega arith, omega arith), refl)
    & ((omega arith, omega arith), (omega arith, omega arith), (omega arith, omega arith), refl)
    & ((omega arith, omega arith), refl, tt)
    & ((omega arith, omega arith), (omega arith, omega arith), (omega arith, omega arith), refl)
    & ((omega arith, omega arith), refl, tt)
    & tt

-- nobody departs
concurrent-staying : AllNameStaying two_members concurrent
concurrent-staying = refl & refl & refl & refl & refl & tt

repeated-staying : AllNameStaying two_members repeated
repeated-staying = refl & refl & refl & tt

joining-staying : AllNameStaying three_members joining
joining-staying = refl & (refl & refl) & refl & refl & refl & refl & refl & refl & refl & refl & refl & refl & tt

-- and no client leaves
concurrent-attended : AllAttend concurrent
concurrent-attended = refl & tt & tt & refl & refl & tt

repeated-attended : AllAttend repeated
repeated-attended = tt & tt & refl & tt

joining-attended : AllAttend joining
joining-attended = refl & tt & tt & tt & tt & tt & tt & tt & tt & refl & tt & refl & tt

-- Lines, the last one first, of which all this holds are a script.
is_script : (heading : Heading) (past : List Line) → IsHeading heading → AllStand heading past → AllNameStaying heading past
    → AllAttend past → IsScript heading (reverse past)
is_script heading past is stand staying attended =
    let same = sym (reverse-reverse past) in
    record {
      heading = is;
      lines_stand = subst (AllStand heading) same stand;
      names_staying = subst (AllNameStaying heading) same staying;
      attended = subst AllAttend same attended;
    }

pub concurrent-script : IsScript two_members (reverse concurrent)
concurrent-script = is_script two_members concurrent two-heading concurrent-stand concurrent-staying concurrent-attended

pub repeated-script : IsScript two_members (reverse repeated)
repeated-script = is_script two_members repeated two-heading repeated-stand repeated-staying repeated-attended

pub joining-script : IsScript three_members (reverse joining)
joining-script = is_script three_members joining three-heading joining-stand joining-staying joining-attended
