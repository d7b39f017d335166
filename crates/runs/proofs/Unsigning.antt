-- Counts of signers for which one premise of signing fails: all of it is computed.
use mathlib.Core.Path.{refl}
use Rattle.runs.specs.Counted.{hall as signed-hall, made, strange, mark}
use Rattle.runs.specs.Slots.{mark_of}
use Rattle.runs.specs.Unsigned.{long, apart, silent, signed, lied, UnsignedRuns}
use Rattle.runs.proofs.Computing.{computing}
use Rattle.runs.proofs.Signing.{cut_by, alike_by, reaches_by, signing_by, signs_by, counts_by, counting_by, not_found, not_marked}
use Rattle.runs.proofs.Agreeing.{schedule_runs}

pub unsigned_runs : UnsignedRuns
unfolding computing
unsigned_runs = record {
  granted = schedule_runs.granted;
  long_alike = alike_by signed-hall mark refl;
  long_reaches = reaches_by signed-hall mark long refl;
  long_fails = record {
    counting = counting_by signed-hall mark 1 made (long 1) refl refl;
    number = refl;
    fails = not_found signed-hall mark long 1 refl refl refl;
  };
  apart_cut = cut_by signed-hall mark_of apart refl;
  apart_reaches = reaches_by signed-hall mark_of apart refl;
  apart_fails = record {
    counting = counting_by signed-hall mark_of 1 (mark_of 1) (apart 1) refl refl;
    number = refl;
    fails = not_found signed-hall mark_of apart 1 refl refl refl;
  };
  silent_cut = cut_by signed-hall mark silent refl;
  silent_alike = alike_by signed-hall mark refl;
  silent_fails = record {
    counting = counting_by signed-hall mark 1 made (silent 1) refl refl;
    number = refl;
    fails = not_found signed-hall mark silent 1 refl refl refl;
  };
  signing = signing_by signed-hall mark signed refl refl refl;
  twice_counts = counts_by signed-hall mark 0 strange refl;
  twice_fails = record { number = refl; fails = not_marked signed-hall mark strange refl };
  lied_signs = signs_by signed-hall mark 1 lied refl;
  lied_fails = record { number = refl; fails = not_marked signed-hall mark strange refl };
}
