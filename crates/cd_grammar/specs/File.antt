-- What an interface file says.
use Rattle.std.specs.Prelude.{ℕ, List, Option}
use Rattle.cd_grammar.specs.declared.written.Part.{Part}
use Rattle.cd_grammar.specs.declared.written.Written.{Written}
use Rattle.cd_grammar.specs.declared.written.Main.{Main}

-- the types with parts that are written in it, each after its own parts; the definitions, names and types; the service, if there is one
pub record File : Type 0 where
  pub types : List Written
  pub definitions : List (List ℕ × Part)
  pub main : Option Main
