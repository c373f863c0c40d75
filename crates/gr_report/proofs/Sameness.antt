-- Members that pass the test have equal rows at each shard, and ones with equal rows pass it.
use Rattle.std.proofs.Common.{◌≡◌, ap, subst, refl, ℕ, List}
use Rattle.std.specs.Bool.{Decides}
use Rattle.std.specs.Cmp.{unsigned_Decides}
use Rattle.std.specs.Cmp.Derive.Mapped.{pointwise-map}
use Rattle.std.specs.Cmp.Lexicographic.{pointwise, pointwise_decides}
use Rattle.std.proofs.lemmas.Bool.Decides.{Decides-and, Decides-like}
use Rattle.std.proofs.lemmas.Slice.Eq.{bytes_eq-Decides}
use Rattle.gr_value.specs.Sameness.{value_eq_decides}
use Rattle.gr_stamp.specs.declared.change.Change.{Change}
use Rattle.gr_stamp.specs.declared.change.Kind.{Kind}
use Rattle.gr_stamp.specs.declared.change.Kind.TheVariants.{Put, Invalid, Remove}
use Rattle.gr_stamp.specs.Version.{Version}
use Rattle.gr_history.specs.declared.record.MemberRecord.{MemberRecord}
use Rattle.gr_report.specs.Same.{kind_eq, stamp_eq, row_eq, rows_by_shard, member_eq}

kind_eq-Decides : (one two : Kind) → Decides (kind_eq one two) (one ≡ two)
kind_eq-Decides (Put a) (Put b) = Decides-like _ (λ (e : a ≡ b). ap Put e) (λ e. cc) (value_eq_decides a b)
kind_eq-Decides Invalid Invalid = (λ _. refl, λ _. refl)
kind_eq-Decides Remove Remove = (λ _. refl, λ _. refl)
kind_eq-Decides _ _ = (λ e. cc, λ e. cc)

stamp_eq-Decides : (one two : Version) → Decides (stamp_eq one two) (one ≡ two)
stamp_eq-Decides one two =
    let made : ℕ → ℕ → ℕ → Version = λ ver member rv. record { ver = ver; member = member; rv = rv } in
    Decides-like _ (λ (e : (one.ver ≡ two.ver) × ((one.member ≡ two.member) × (one.rv ≡ two.rv))). λ i. made (e.0 i) (e.1.0 i) (e.1.1 i))
    (λ (e : one ≡ two). (ap (λ stamp. stamp.ver) e, (ap (λ stamp. stamp.member) e, ap (λ stamp. stamp.rv) e)))
    (Decides-and _ _ (unsigned_Decides one.ver two.ver)
    (Decides-and _ _ (unsigned_Decides one.member two.member) (unsigned_Decides one.rv two.rv)))

row_eq-Decides : (one two : Change) → Decides (row_eq one two) (one ≡ two)
row_eq-Decides one two =
    let made : List ℕ → Kind → Version → Change = λ key kind stamp. record { key = key; kind = kind; stamp = stamp } in
    Decides-like _ (λ (e : (one.key ≡ two.key) × ((one.kind ≡ two.kind) × (one.stamp ≡ two.stamp))). λ i. made (e.0 i) (e.1.0 i) (e.1.1 i))
    (λ (e : one ≡ two). (ap (λ row. row.key) e, (ap (λ row. row.kind) e, ap (λ row. row.stamp) e)))
    (Decides-and _ _ (bytes_eq-Decides one.key two.key)
    (Decides-and _ _ (kind_eq-Decides one.kind two.kind) (stamp_eq-Decides one.stamp two.stamp)))

pub member_eq_decides : (one two : MemberRecord) → Decides (member_eq one two) (rows_by_shard one ≡ rows_by_shard two)
member_eq_decides one two =
    subst (λ test. Decides test (rows_by_shard one ≡ rows_by_shard two))
    (pointwise-map (λ shard. shard.region.rows) (pointwise row_eq) one.shards two.shards)
    (pointwise_decides (λ a b. pointwise_decides row_eq-Decides a b) (rows_by_shard one) (rows_by_shard two))
