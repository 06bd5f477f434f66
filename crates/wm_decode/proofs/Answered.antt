-- From the reader's answer to the clauses of `decode`.
use Rattle.std.proofs.Common.{◌≡◌, ℕ, ◌<◌, ◌^◌, Bool, false, List, [], ◌∷◌, Option, Some, None, length, sym, ◌∙◌, lit<}
use Rattle.std.specs.Prelude.{All}
use Rattle.std.proofs.lemmas.List.Elements.{All-nil, All-cons}
use Rattle.ic_base.proofs.Steps.{some_is}
use Rattle.ic_base.specs.Spelling.{Spelling, SpellsMany}
use Rattle.wm_tree.specs.declared.parts.Module.{Module}
use Rattle.wm_tree.specs.Seq.{IsFlat}
use Rattle.wm_tree.specs.IsModule.{IsModule}
use Rattle.wm_decode.specs.declared.fault.ModuleFault.{ModuleFault}
use Rattle.wm_decode.specs.declared.fault.ModuleFault.TheVariants as fault
use Rattle.wm_decode.specs.Values.{SpellsU32}
use Rattle.wm_decode.specs.Mod.{Lists, Mod, content_of}
use Rattle.wm_decode.specs.Parts.{SpellsImport, SpellsGlobal, SpellsExport, SpellsElement, SpellsCode, SpellsSegment}
use Rattle.wm_decode.specs.Answer.{IsPlain, HasModule, RefusedAs, Comes}
use Rattle.wm_decode.specs.Readers.{module_at}
use Rattle.wm_decode.proofs.ExactModule.{module_again}

-- a list in a section has fewer than 2 ^ 32 items
few : {A : Type 0} (P : Spelling A) (items : List A) (content : Option (List ℕ)) → Lists P items content → length items < 2 ^ 32
few P items None p = rw p (lit< tt)
few P items (Some content) p = p.count.fits

-- what each spelling says of its value
each : {A : Type 0} (P : Spelling A) (Q : A → Type 0) → ((x : A) (bytes : List ℕ) → P x bytes → Q x) → (items : List A) (bytes : List ℕ) → SpellsMany P items bytes → All Q items
each P Q says [] bytes p = All-nil Q
each P Q says (x ∷ items) bytes p = All-cons Q x items (says x p.0 p.3) (each P Q says items p.1 p.4)

all : {A : Type 0} (P : Spelling A) (Q : A → Type 0) → ((x : A) (bytes : List ℕ) → P x bytes → Q x) → (items : List A) (content : Option (List ℕ)) → Lists P items content → All Q items
all P Q says items None p = rw p (All-nil Q)
all P Q says items (Some content) p = each P Q says items p.rest p.values

pub is_module : (float : Bool) (m : Module) (bytes : List ℕ) → Mod float m bytes → IsModule m
is_module float m bytes p = record {
  counts = p.counts;
  imports = few (SpellsImport float) m.imports (content_of 2 p.sections) p.imports;
  functions = few SpellsU32 m.functions (content_of 3 p.sections) p.functions;
  exports = few SpellsExport m.exports (content_of 7 p.sections) p.exports;
  bodies = all (SpellsCode float) (λ c. IsFlat c.body) (λ c bs s. s.value.spelled.second.flat) m.codes (content_of 10 p.sections) p.codes;
  globals = all (SpellsGlobal float) (λ g. IsFlat g.init) (λ g bs s. s.second.flat) m.globals (content_of 6 p.sections) p.globals;
  elements = all (SpellsElement float) (λ e. IsFlat e.offset) (λ e bs s. s.second.first.flat) m.elements (content_of 9 p.sections) p.elements;
  segments = all (SpellsSegment float) (λ x. IsFlat x.offset) (λ x bs s. s.second.first.flat) m.segments (content_of 11 p.sections) p.segments;
}

-- the module that was read is the one that the bytes spell
pub only_one : (float : Bool) (m n : Module) (bytes : List ℕ) → module_at float bytes ≡ Some m → Mod float n bytes → m ≡ n
only_one float m n bytes read p = some_is m n (sym read ∙ module_again float n bytes p)

-- nothing is read, so the bytes spell no module
pub none_spelled : (float : Bool) (bytes : List ℕ) → module_at float bytes ≡ None → HasModule float bytes → ⊥
none_spelled float bytes read p = let again = module_again float p.0 bytes p.1 in absurd cc

pub comes : (bytes : List ℕ) (e : ModuleFault) → IsPlain bytes → module_at false bytes ≡ None → RefusedAs bytes e → Comes bytes e
comes bytes fault.TooLarge plain none why = absurd why
comes bytes fault.Compressed plain none why = absurd why
comes bytes fault.Float plain none why = (plain, why, none_spelled false bytes none)
comes bytes fault.NotModule plain none why = (plain, why, none_spelled false bytes none)
comes bytes fault.NoMemory plain none why = tt

-- where a module is spelled, a second reading fails out of memory alone
pub only_memory : (bytes : List ℕ) (e : ModuleFault) (m : Module) → module_at false bytes ≡ None → Mod false m bytes → e ≡ fault.NoMemory
only_memory bytes e m none p = absurd (none_spelled false bytes none (m, p))
