-- Each list has room for the longest, and m is at most that. Assumes nothing.
use Rattle.std.proofs.Common.{sym, arith, length-take-le}
use Rattle.corrections.proofs.cut.Goals as goal

pub slice_bounds-case-end-2 : goal.slice_bounds-case-end-2
slice_bounds-case-end-2 c = sym (length-take-le _ _ (omega (arith, c.size-m.ensures, c.requires.list-long)))

pub slice_bounds-case-end-4 : goal.slice_bounds-case-end-4
slice_bounds-case-end-4 c = sym (length-take-le _ _ (omega (arith, c.size-m.ensures, c.requires.own-long)))

pub slice_bounds-case-end-6 : goal.slice_bounds-case-end-6
slice_bounds-case-end-6 c = sym (length-take-le _ _ (omega (arith, c.size-m.ensures, c.requires.results-long)))

pub slice_bounds-case-end-8 : goal.slice_bounds-case-end-8
slice_bounds-case-end-8 c = sym (length-take-le _ _ (omega (arith, c.size-m.ensures, c.requires.track-long)))

pub slice_bounds-case-end-10 : goal.slice_bounds-case-end-10
slice_bounds-case-end-10 c = sym (length-take-le _ _ (omega (arith, c.size-m.ensures, c.requires.old-long)))

pub slice_bounds-case-end-12 : goal.slice_bounds-case-end-12
slice_bounds-case-end-12 c = sym (length-take-le _ _ (omega (arith, c.size-m.ensures, c.requires.fresh-results-long)))

pub slice_bounds-case-end-14 : goal.slice_bounds-case-end-14
slice_bounds-case-end-14 c = sym (length-take-le _ _ (omega (arith, c.size-m.ensures, c.requires.fresh-track-long)))
