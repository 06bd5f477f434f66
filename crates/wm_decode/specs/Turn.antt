-- What a word does to the open blocks, as the code says it.
use Rattle.std.specs.Prelude.{◌≡◌, Bool, List}
use Rattle.wm_tree.specs.declared.class.Class.{Class}
use Rattle.wm_decode.specs.declared.exprs.Turn.{Turn}
use Rattle.wm_decode.specs.declared.exprs.Turn.TheVariants.{On, Done, Wrong}
use Rattle.wm_decode.specs.Readers.{follow, done, on, wrong}

-- the open blocks before and after the word
abbrev pub Turned : Class → List Bool → List Bool → Turn → Type 0
Turned class old new On = follow class old ≡ on new
Turned class old new Done = follow class old ≡ done
Turned class old new Wrong = follow class old ≡ wrong
