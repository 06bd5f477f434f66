-- The relay module meets what is asked of a module that is written.
use Rattle.std.proofs.Common.{◌<◌, ◌≤◌, ◌^◌, [], ◌∷◌, ◌++◌, length, refl, lit<, lit≤}
use Rattle.std.specs.Prelude.{pos}
use Rattle.std.specs.List.{sum_by}
use Rattle.std.proofs.lemmas.List.Elements.{All-from_recursion}
use Rattle.ic_leb.specs.Spelling.{seven_bits_each, unsigned_spelling, signed_spelling}
use Rattle.wm_tree.specs.Relay.{counts, replies, passes_on, returns_reply, returns_reject, relay}
use Rattle.wm_tree.specs.declared.instr.Instr.TheVariants as op
use Rattle.wm_tree.specs.Seq.{IsFlat}
use Rattle.wm_tree.specs.TreeOf.{tree_of}
use Rattle.wm_decode.specs.Answer.{largest}
use Rattle.wm_encode.specs.Whole.{sections, whole}
use Rattle.wm_encode.specs.Fits.{Fits}

method_flat : IsFlat (counts ++ (replies ++ passes_on))
method_flat = record { tree = tree_of (counts ++ (replies ++ passes_on)); proper = (refl, (refl, (refl, (refl, (refl, (refl, (refl, (refl, (refl, (refl, (refl, (refl, ((refl, (refl, (refl, (refl, tt)))), (refl, (refl, (refl, (refl, (refl, (refl, (refl, (refl, (refl, (refl, (refl, (refl, (refl, (refl, (refl, (refl, (refl, (refl, (refl, (refl, (refl, (refl, tt)))))))))))))))))))))), tt))))))))))))); whole = refl }

reply_flat : IsFlat returns_reply
reply_flat = record { tree = tree_of returns_reply; proper = (refl, (refl, (refl, (refl, (refl, (refl, (refl, (refl, (refl, (refl, tt)))))))))); whole = refl }

reject_flat : IsFlat returns_reject
reject_flat = record { tree = tree_of returns_reject; proper = (refl, (refl, (refl, tt))); whole = refl }

zero_flat : IsFlat (op.I32Const (pos 0) ∷ [])
zero_flat = record { tree = tree_of (op.I32Const (pos 0) ∷ []); proper = (refl, tt); whole = refl }

pub relay_fitting : Fits relay
unfolding seven_bits_each unsigned_spelling signed_spelling
relay_fitting = record {
  parts = record {
    counts = refl;
    imports = lit< tt;
    functions = lit< tt;
    exports = lit< tt;
    bodies = All-from_recursion (λ c. IsFlat c.body) relay.codes (method_flat, (reply_flat, (reject_flat, tt)));
    globals = All-from_recursion (λ g. IsFlat g.init) relay.globals tt;
    elements = All-from_recursion (λ e. IsFlat e.offset) relay.elements (zero_flat, tt);
    segments = All-from_recursion (λ s. IsFlat s.offset) relay.segments (zero_flat, tt);
  };
  locals = All-from_recursion (λ c. sum_by (λ r. r.count) c.locals < 2 ^ 32) relay.codes (lit< tt, (lit< tt, (lit< tt, tt)));
  sizes = All-from_recursion (λ s. length s.content < 2 ^ 32) (sections relay) (lit< tt, (lit< tt, (lit< tt, (lit< tt, (lit< tt, (lit< tt, (lit< tt, (lit< tt, (lit< tt, tt)))))))));
}

pub relay_small : length (whole relay) ≤ largest
unfolding seven_bits_each unsigned_spelling signed_spelling
relay_small = lit≤ tt
