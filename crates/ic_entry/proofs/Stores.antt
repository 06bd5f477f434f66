-- The store that new code begins with.
use Rattle.std.proofs.Common.{◌≡◌, ℕ, ◌*◌, ◌+◌, ◌≤◌, Bool, true, false, List, [], ◌++◌, Some, None, length, ap, ◌∙◌, arith}
use Rattle.std.specs.Prelude.{cond, ◌&&◌, replicate, if◌then◌else◌}
use Rattle.std.proofs.lemmas.Bool.{le-leb}
use Rattle.std.proofs.lemmas.List.{drop_all, append-nil, length-replicate}
use Rattle.wm_tree.specs.declared.parts.Module.{Module}
use Rattle.wm_pages.specs.Over.{over}
use Rattle.wm_store.specs.Lists.{Lists, pages_of, grown, written, or_stays}
use Rattle.wm_semantics.specs.Instance.{instance, first_store, elements_fit, segments_fit, table_size, memory_size}
use Rattle.ic_behaviour.specs.Installing.{with_stable}

none_stable : (m : Module) (b : Bool) (lists : Lists) → cond b (Some (first_store m)) None ≡ Some lists → lists.stable ≡ []
none_stable m true lists e = let k : Some (first_store m) ≡ Some lists = e in let same : lists ≡ first_store m = cc in ap (λ (l : Lists). l.stable) same
none_stable m false lists e = absurd (let k : None ≡ Some lists = e in cc)

-- a module begins without stable memory
pub no_stable : (m : Module) (lists : Lists) → instance m ≡ Some lists → lists.stable ≡ []
no_stable m lists e = none_stable m (elements_fit (table_size m) m.elements && segments_fit (memory_size m) m.segments) lists e

-- ---- pages of a store that has none, and bytes over all of them

added_all : (pages : ℕ) → pages ≤ 256 → or_stays (grown 256 pages []) [] ≡ replicate (65536 * pages) 0
added_all pages few =
    ap (λ fits. or_stays (if fits then Some ([] ++ replicate (65536 * pages) 0) else None) []) (le-leb (pages_of [] + pages) 256 (omega (arith, few)))

over_all : (bytes xs : List ℕ) → length xs ≡ length bytes → or_stays (written 0 bytes xs) xs ≡ bytes
unfolding over
over_all bytes xs e =
    ap (λ fits. or_stays (if fits then Some (over 0 bytes xs) else None) xs) (le-leb (0 + length bytes) (length xs) (omega (arith, e)))
    ∙ ap (λ l. bytes ++ l) (drop_all (0 + length bytes) xs (omega (arith, e))) ∙ append-nil bytes

pub filled : (pages : ℕ) (bytes : List ℕ) (s t u : Lists) → s.stable ≡ [] → 65536 * pages ≡ length bytes → pages ≤ 256
    → t ≡ record s { stable = or_stays (grown 256 pages s.stable) s.stable } → u ≡ record t { stable = or_stays (written 0 bytes t.stable) t.stable }
    → u ≡ with_stable bytes s
filled pages bytes s t u none whole few grows writes =
    let zeros = replicate (65536 * pages) 0 in
    let room : t.stable ≡ zeros = ap (λ (l : Lists). l.stable) grows ∙ ap (λ l. or_stays (grown 256 pages l) l) none ∙ added_all pages few in
    let put = ap (λ l. or_stays (written 0 bytes l) l) room ∙ over_all bytes zeros (length-replicate (65536 * pages) 0 ∙ whole) in
    writes ∙ (λ i. with_stable (put i) t) ∙ ap (with_stable bytes) grows
