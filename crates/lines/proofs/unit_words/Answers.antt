-- One case for each variant. Assumes nothing.
use Rattle.lines.specs.Lines.{unit_text}
use Rattle.lines.proofs.unit_words.Goals as goal

pub returns-in-Plain : goal.returns-in-Plain
unfolding unit_text
returns-in-Plain c = rw c.in-Plain.is

pub returns-in-Metre : goal.returns-in-Metre
unfolding unit_text
returns-in-Metre c = rw c.in-Metre.is

pub returns-in-Millimetre : goal.returns-in-Millimetre
unfolding unit_text
returns-in-Millimetre c = rw c.in-Millimetre.is

pub returns-in-Arcsecond : goal.returns-in-Arcsecond
unfolding unit_text
returns-in-Arcsecond c = rw c.in-Arcsecond.is

pub returns-in-MicroArcsecond : goal.returns-in-MicroArcsecond
unfolding unit_text
returns-in-MicroArcsecond c = rw c.in-MicroArcsecond.is

pub returns-in-Ppm : goal.returns-in-Ppm
unfolding unit_text
returns-in-Ppm c = rw c.in-Ppm.is
