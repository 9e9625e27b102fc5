use Rattle.journal.proofs.Writes.{exit_is}
use Rattle.startup.proofs.MakeWrites.{stops_first, stops_in_zeros, runs_all}
use Rattle.startup.proofs.making.write_register.Goals as goal

pub returns-in_err-write_all : goal.returns-in_err-write_all
returns-in_err-write_all g c =
    stops_first _ c.first_writes.ensures (exit_is c.from_residual.ensures.1) c.in_err-write_all.ensures

pub returns-in_err-write_zeros : goal.returns-in_err-write_zeros
returns-in_err-write_zeros g c =
    stops_in_zeros _ c.first_writes.ensures c.in_ok-write_all.ensures
    (exit_is c.from_residual-in_err-write_zeros.ensures.1) c.in_err-write_zeros.ensures

pub returns : goal.returns
returns g c =
    runs_all _ c.first_writes.ensures c.in_ok-write_all.ensures c.in_ok-write_zeros.ensures
    c.write_all-2.ensures
