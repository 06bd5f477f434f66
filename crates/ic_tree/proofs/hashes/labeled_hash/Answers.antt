use Rattle.std.proofs.Common.{◌∙◌, ◌++◌, codes, ◌≡◌, rules}
use Rattle.sha2.specs.Sha256.{sha256}
use Rattle.ic_tree.specs.HashTree.{domain_sep}
use Rattle.ic_tree.proofs.hashes.labeled_hash.Goals as goal

pub returns : goal.returns
returns c =
    let first : c.as_slice.result.now ≡ domain_sep (codes "ic-hashtree-labeled") = search rules in
    let third : c.as_slice-2.result.now ≡ c.args.part.now = search rules in
    c.hash_of.ensures ∙ (λ i. sha256 ((first i ++ c.args.label.now) ++ third i))
