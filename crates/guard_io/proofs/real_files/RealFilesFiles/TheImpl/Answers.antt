use Rattle.std.proofs.Common.{refl}
use Rattle.guard_io.proofs.Untold.{OnOk-untold, OnErr-untold, FaultCounted-one_more, on_one_error}
use Rattle.guard_io.proofs.real_files.RealFilesFiles.TheImpl.Goals as goal

pub load-tells : goal.load-tells
load-tells g c = record {
  ok = OnOk-untold c.result _;
  err = OnErr-untold c.result _;
  held = c.ensures.held;
  failed = λ e. FaultCounted-one_more _ _ (on_one_error c.result _ e c.ensures.failed);
  same = λ other. refl;
  kept = λ other. c.ensures.kept;
}
