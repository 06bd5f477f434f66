-- Steps that may fail, one after the other.
use Rattle.std.proofs.Common.{◌≡◌, Bool, true, false, cond, ◌&&◌, Option, Some, None, refl}
use Rattle.ic_base.specs.Reader.{◌>>=◌}
use Rattle.wm_tree.specs.declared.types.ValType.{ValType}
use Rattle.wm_typing.specs.Points.{Point, ends, ends_well}
use Rattle.wm_typing.specs.Flat.{Levels, Around, levels, onto}

-- a step on the point, and then on
pub onward : (a : Around) (o : Option Point) (f : Levels → Option Levels) (g : Point → Option Point) (k : Point → Option Levels)
    → ((q : Point) → f (levels q a) ≡ (g q >>= k)) → (onto a o >>= f) ≡ ((o >>= g) >>= k)
onward a (Some q) f g k same = same q
onward a None f g k same = refl

-- the end of a block, and then on
pub block_end : (e : Point → Bool) (e' : Option Point → Bool) (o : Option Point) (s : Levels) (f : Levels → Option Levels) (x : Option Point) (k : Point → Option Levels)
    → e' None ≡ false → ((q : Point) → e' (Some q) ≡ e q) → f s ≡ (x >>= k)
    → (o >>= λ q. cond (e q) (Some s) None >>= f) ≡ (cond (e' o) x None >>= k)
block_end e e' None s f x k none some same = rw none refl
block_end e e' (Some q) s f x k none some same = rw some (tested (e q) s f x k same) where
  tested : (t : Bool) (s : Levels) (f : Levels → Option Levels) (x : Option Point) (k : Point → Option Levels)
      → f s ≡ (x >>= k) → (cond t (Some s) None >>= f) ≡ (cond t x None >>= k)
  tested true s f x k same = same
  tested false s f x k same = refl

-- the `else` of a block, and then on
pub block_turn : (t : Option ValType) (o : Option Point) (b : Bool) (s : Levels) (f : Levels → Option Levels) (x : Option Point) (k : Point → Option Levels)
    → f s ≡ (cond b x None >>= k)
    → (o >>= λ q. cond (ends t q) (Some s) None >>= f) ≡ (cond (ends_well t o && b) x None >>= k)
block_turn t None b s f x k same = refl
block_turn t (Some q) b s f x k same = tested (ends t q) b s f x k same where
  tested : (e b : Bool) (s : Levels) (f : Levels → Option Levels) (x : Option Point) (k : Point → Option Levels)
      → f s ≡ (cond b x None >>= k) → (cond e (Some s) None >>= f) ≡ (cond (e && b) x None >>= k)
  tested true b s f x k same = same
  tested false b s f x k same = refl
