-- What words ask for that begin with none of those that need threads.
use Rattle.std.proofs.Common.{◌≡◌, ◌≢◌, ◌∙◌, ℕ, ◌≤◌, List, [], ◌∷◌, Bool, Decides, Result, String, Global, ap, arith, bytes_eq}
use Rattle.std.proofs.Common.{codes, false, length, map, refl, slice_index_or, string_bytes, subst, sym, true}
use Rattle.std.proofs.lemmas.Slice.Eq.{bytes_eq-Decides}
use Rattle.std.specs.Prelude.{if◌then◌else◌}
use Rattle.gr_top.specs.declared.cause.Cause.{Cause}
use Rattle.gr_top.specs.declared.words.Detail.TheVariants.{Histories, Tables}
use Rattle.gr_top.specs.declared.words.Request.{Request}
use Rattle.gr_top.specs.Words.{asked_alone, asked_run, behind_drill, behind_report, mode_of, request_of, told_behind, Understands}

pub request_without : (word : List ℕ) (words : List (List ℕ))
    → bytes_eq word (codes "run") ≡ false → bytes_eq word (codes "drill") ≡ false
    → bytes_eq word (codes "--history") ≡ false → bytes_eq word (codes "--tables") ≡ false
    → request_of (word ∷ words) ≡ asked_alone (mode_of (word ∷ words))
request_without word words run drill histories tables =
    ap (λ b. if b then asked_run (behind_report words)
    else (if bytes_eq word (codes "drill") then behind_drill words
    else (if bytes_eq word (codes "--history") then told_behind Histories words
    else (if bytes_eq word (codes "--tables") then told_behind Tables words
    else asked_alone (mode_of (word ∷ words)))))) run
    ∙ ap (λ b. if b then behind_drill words
    else (if bytes_eq word (codes "--history") then told_behind Histories words
    else (if bytes_eq word (codes "--tables") then told_behind Tables words
    else asked_alone (mode_of (word ∷ words))))) drill
    ∙ ap (λ b. if b then told_behind Histories words
    else (if bytes_eq word (codes "--tables") then told_behind Tables words
    else asked_alone (mode_of (word ∷ words)))) histories
    ∙ ap (λ b. if b then told_behind Tables words else asked_alone (mode_of (word ∷ words))) tables

differ : (one two : List ℕ) → one ≢ two → bytes_eq one two ≡ false
differ one two apart = by_case (bytes_eq one two) (bytes_eq-Decides one two)
  where
    by_case : (b : Bool) → Decides b (one ≡ two) → b ≡ false
    by_case true decides = absurd (apart (decides.0 refl))
    by_case false decides = refl

-- the same of words that are there
pub understood_without : (words : List (String Global)) (word : String Global) (text : List ℕ) (result : Result Request Cause)
    → 1 ≤ length words → word ≡ slice_index_or words 0 word → text ≡ string_bytes word
    → text ≢ codes "run" → text ≢ codes "drill" → text ≢ codes "--history" → text ≢ codes "--tables"
    → Understands (asked_alone (mode_of (map (λ word. string_bytes word) words))) result
    → Understands (request_of (map (λ word. string_bytes word) words)) result
understood_without [] word text result some is spelled run drill histories tables understood = absurd (omega (arith, some))
understood_without (first ∷ rest) word text result some is spelled run drill histories tables understood =
    let same : text ≡ string_bytes first = spelled ∙ ap string_bytes is in
    let other : (bytes : List ℕ) → text ≢ bytes → bytes_eq (string_bytes first) bytes ≡ false =
    λ bytes apart. differ (string_bytes first) bytes (λ e. apart (same ∙ e)) in
    subst (λ asked. Understands asked result)
    (sym (request_without (string_bytes first) (map (λ word. string_bytes word) rest) (other (codes "run") run) (other (codes "drill") drill)
    (other (codes "--history") histories) (other (codes "--tables") tables)))
    understood
