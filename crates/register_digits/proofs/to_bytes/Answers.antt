use Rattle.register_digits.proofs.Bytes.{bytes_of-placed}
use Rattle.register_digits.proofs.to_bytes.Goals as goal

pub returns : goal.returns
returns c = bytes_of-placed _ _ c.place_parity.ensures
