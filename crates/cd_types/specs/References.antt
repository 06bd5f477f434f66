-- Candid specification, "Binary Format" (T): the types that an entry is made of
use Rattle.std.specs.Prelude.{List, [], ◌∷◌, ◌++◌, map}
use Rattle.cd_types.specs.declared.entry.TyRef.{TyRef}
use Rattle.cd_types.specs.declared.entry.Entry.{Entry}
use Rattle.cd_types.specs.declared.entry.Entry.TheVariants.{Opt, Seq, Rec, Var, Func, Service}

-- the types that an entry names
abbrev pub references : Entry → List TyRef
references (Opt type) = type ∷ []
references (Seq type) = type ∷ []
references (Rec fields) = map (λ f. f.1) fields
references (Var cases) = map (λ f. f.1) cases
references (Func args results notes) = args ++ results
references (Service methods) = map (λ m. m.1) methods
