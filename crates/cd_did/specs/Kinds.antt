-- What a name has to stand for. No standard has this.
use Rattle.std.specs.Prelude.{Bool, Option}
use Rattle.cd_did.specs.declared.kinds.Kind.{Kind}
use Rattle.cd_did.specs.declared.kinds.Kind.TheVariants.{Func, Service}
use Rattle.cd_grammar.specs.declared.written.Written.{Written}
use Rattle.cd_did.specs.Faults.{is_func, is_service}

abbrev pub is_kind : Kind → Option Written → Bool
is_kind Func written = is_func written
is_kind Service written = is_service written
