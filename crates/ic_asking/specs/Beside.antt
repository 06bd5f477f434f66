-- A world, by its parts and the messages that are under way. No standard has this.
use Rattle.std.specs.Prelude.{List}
use Rattle.ic_behaviour.specs.declared.call.Message.{Message}
use Rattle.ic_state.specs.declared.world.Parts.{Parts}

abbrev pub with_messages : Parts → List Message → Parts
with_messages p messages = record p { messages = messages }
