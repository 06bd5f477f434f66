-- Words that no command line accepts.
use Rattle.std.proofs.Common.{◌≡◌, [], ◌∷◌, None, codes, refl}
use Rattle.clap.specs.Walk.{walked}
use Rattle.clap.specs.Takes.{walk_passes}
use Rattle.ic_options.specs.Options.{options_of}

-- a word that is no option is refused
pub no_option : options_of (codes "replica" ∷ codes "no text" ∷ []) ≡ None
unfolding options_of walked walk_passes
no_option = refl
