-- `exports::store_energies` meets its contract: seven entries, one after the other; a status and a flag by their numbers. Assumes nothing.
use mathlib.Core.Path.{◌≡◌, refl}
use mathlib.Core.Bool.{Bool, true, false}
use denote.Enum.Declared.{tag_of}
use lib.Ieee.{binary64, of_int, of_bits}
use lib.IntN.{pos}
use mir.Val.{bool_byte}
use Rattle.thermo_models.specs.declared.ValidityStatus.{ValidityStatus}
use Rattle.thermo_models.specs.declared.ValidityStatus.TheVariants.{Unassessed, WithinDeclaredDomain, Extrapolated}
use Rattle.thermo_models.specs.contracts.ValidityStatus.{the_type}
use Rattle.exports.specs.Models.{energies_stored, status_float, flag_float}
use Rattle.exports.proofs.store_energies.Goals as goal

status_is : (s : ValidityStatus) → of_int binary64 (pos (tag_of the_type s)) ≡ status_float s
unfolding status_float of_int of_bits
status_is Unassessed = refl
status_is WithinDeclaredDomain = refl
status_is Extrapolated = refl

flag_is : (b : Bool) → of_int binary64 (pos (bool_byte b)) ≡ flag_float b
unfolding flag_float of_int of_bits
flag_is true = refl
flag_is false = refl

pub returns : goal.returns
unfolding energies_stored
returns c = rw (c.from.ensures, c.from-2.ensures, status_is c.args.a.status, flag_is c.args.a.inferred)
