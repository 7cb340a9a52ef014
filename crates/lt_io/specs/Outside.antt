-- What is outside at one moment.
use Rattle.lt_io.specs.Files.{Files}
use Rattle.lt_io.specs.Link.{Link}
use Rattle.lt_io.specs.Programs.{Programs}
use Rattle.lt_io.specs.Sink.{Sink}

-- Where inputs come from, and the trace, to which what is put out goes. What the first are is for each layer to say: links
-- where a run is driven, programs that may be started where it is played, and files beside these where a call is made.
pub record Outside (Inputs : Type 0) : Type 0 where
  pub inputs : Inputs
  pub trace : Sink

-- the links of a run's controller and of its oracle
pub record Links : Type 0 where
  pub controller : Link
  pub oracle : Link

-- the files, and the programs that may be started
pub record Sources : Type 0 where
  pub files : Files
  pub programs : Programs

-- two links and a trace
abbrev pub linked : Link → Link → Sink → Outside Links
linked controller oracle trace = record { inputs = record { controller = controller; oracle = oracle }; trace = trace }

-- programs and a trace
abbrev pub beside : Programs → Sink → Outside Programs
beside programs trace = record { inputs = programs; trace = trace }

-- files, programs and a trace
abbrev pub around : Files → Programs → Sink → Outside Sources
around files programs trace = record { inputs = record { files = files; programs = programs }; trace = trace }

-- what is outside but for the files
abbrev pub without_files : Outside Sources → Outside Programs
without_files outside = record { inputs = outside.inputs.programs; trace = outside.trace }
