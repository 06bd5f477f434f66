-- Words that no command line accepts.
use Rattle.std.proofs.Common.{◌≡◌, [], ◌∷◌, None, codes, refl}
use Rattle.clap.specs.Takes.{walk_passes}
use Rattle.clap.specs.Walk.{walked}
use Rattle.ct_words.specs.Options.{options_of}

-- a file is to be named
pub no_file : options_of (codes "canister_test" ∷ []) ≡ None
unfolding options_of walked walk_passes
no_file = refl
