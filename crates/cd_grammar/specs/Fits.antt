-- Files of which each part that is a place is one of their types, and each annotation is one.
use Rattle.std.specs.Prelude.{◌≡◌, ℕ, Bool, true, ◌&&◌, nat_lt, List, [], ◌∷◌, ◌++◌, length, map, Option, Some, None}
use Rattle.std.specs.List.{list_all}
use Rattle.cd_types.specs.IsOrdered.{is_note}
use Rattle.cd_grammar.specs.declared.written.Part.{Part}
use Rattle.cd_grammar.specs.declared.written.Part.TheVariants.{Place}
use Rattle.cd_grammar.specs.declared.written.Written.{Written}
use Rattle.cd_grammar.specs.declared.written.Written.TheVariants.{Opt, Seq, Rec, Var, Func, Service}
use Rattle.cd_grammar.specs.declared.written.Main.{Main}
use Rattle.cd_grammar.specs.File.{File}

-- the types that a type is made of
abbrev pub parts_of : Written → List Part
parts_of (Opt part) = part ∷ []
parts_of (Seq part) = part ∷ []
parts_of (Rec fields) = map (λ f. f.1) fields
parts_of (Var cases) = map (λ f. f.1) cases
parts_of (Func args results notes) = args ++ results
parts_of (Service methods) = map (λ m. m.1) methods

-- a test of each type that is in the service
abbrev pub all_in_main : (Part → Bool) → Option Main → Bool
all_in_main test None = true
all_in_main test (Some main) = list_all test main.tuple && test main.service

abbrev pub part_fits : ℕ → Part → Bool
part_fits n (Place place) = nat_lt place n
part_fits n _ = true

abbrev pub notes_fit : Written → Bool
notes_fit (Func args results notes) = list_all is_note notes
notes_fit _ = true

abbrev pub written_fits : ℕ → Written → Bool
written_fits n written = list_all (part_fits n) (parts_of written) && notes_fit written

-- each of the types names places among them
abbrev pub Fit : List Written → Type 0
Fit types = list_all (written_fits (length types)) types ≡ true

pub record FitsFile (file : File) : Type 0 where
  pub types : Fit file.types
  pub definitions : list_all (part_fits (length file.types)) (map (λ d. d.1) file.definitions) ≡ true
  pub main : all_in_main (part_fits (length file.types)) file.main ≡ true
