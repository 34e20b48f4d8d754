use Rattle.yaml_laws.proofs.EscapeWanted.{is_read, is_wanted}
use Rattle.yaml_laws.proofs.escape.wanted_digits.Goals as goal

pub returns-clause-read : goal.returns-clause-read
returns-clause-read c w left so_far count number bytes = is_read w left so_far count number bytes

pub returns-clause-wanted : goal.returns-clause-wanted
returns-clause-wanted c w left so_far count number bytes = is_wanted w left so_far count number bytes
