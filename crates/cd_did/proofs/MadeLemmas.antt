-- Entries that are made one after the other.
use Rattle.std.proofs.Common.{◌≡◌, ℕ, suc, ◌+◌, ◌≤◌, ◌<◌, List, [], ◌∷◌, ◌++◌, length, Some, sym, ap, subst, ◌∙◌, length-append, inl, inr, arith}
use Rattle.std.specs.Prelude.{slice_get}
use Rattle.ic_base.proofs.Steps.{some_is}
use Rattle.cd_types.specs.declared.entry.Entry.{Entry}
use Rattle.cd_grammar.specs.declared.written.Written.{Written}
use Rattle.cd_grammar.specs.File.{File}
use Rattle.cd_did.specs.Entries.{EntryOf, EntriesOf}
use Rattle.cd_did.specs.Formed.{IsFormed, AllFormed, MadeSoFar}
use Rattle.cd_did.proofs.Ends.{get_front, get_last, smaller_or_same}
use Rattle.std.proofs.lemmas.Option.{slice_get_within}

pub one_made : (file : File) (ends : List ℕ) (n : ℕ) (made : List Entry) (w : Written) (entry : Entry) → MadeSoFar file ends n made → slice_get file.types n ≡ Some w → EntryOf file ends w entry × IsFormed file ends w → MadeSoFar file ends (n + 1) (made ++ entry ∷ [])
one_made file ends n made w entry so_far at own = (
  length-append made (entry ∷ []) ∙ ap (λ k. k + 1) so_far.0,
  λ i v below there.
      let less : i < suc n = omega (arith, below) in
      elim (smaller_or_same i n less) [
        | inl before ↦
            let m = so_far.1 i v before there in
            ((m.0.0, get_front made (entry ∷ []) i m.0.0 m.0.1, m.0.2), m.1)
        | inr same ↦
            let is : w ≡ v = some_is {A = Written} w v (sym at ∙ ap (slice_get file.types) (sym same) ∙ there) in
            let last : slice_get (made ++ entry ∷ []) i ≡ Some entry = subst (λ j. slice_get (made ++ entry ∷ []) j ≡ Some entry) (so_far.0 ∙ sym same) (get_last made entry) in
            ((entry, last, subst (λ (x : Written). EntryOf file ends x entry) is own.0), subst (λ (x : Written). IsFormed file ends x) is own.1)
      ],
)

pub all_made : (file : File) (ends : List ℕ) (n : ℕ) (made : List Entry) → MadeSoFar file ends n made → length file.types ≤ n → n ≤ length file.types → EntriesOf file ends made × AllFormed file ends
all_made file ends n made so_far all few =
    let size : length made ≡ length file.types = so_far.0 ∙ omega (arith, all, few) in (
      (size, λ i w there. (so_far.1 i w (let below = slice_get_within file.types i w there in omega (arith, below, all)) there).0),
      λ i w there. (so_far.1 i w (let below = slice_get_within file.types i w there in omega (arith, below, all)) there).1,
    )
