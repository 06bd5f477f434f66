-- The laws of the host to which somebody listens, by those of the System API: what is heard is beside it.
use Rattle.wm_semantics.specs.Hosts.{Lawful}
use Rattle.ic_api.specs.Hearing.{Hears}
use Rattle.ic_api.specs.Laws.Hosts as plain

pub lawful : Lawful Hears
lawful h import call args s limit used told h' t used' is values hears =
    plain.lawful h.run import call args s limit used told h'.run t used' is values hears.meets
