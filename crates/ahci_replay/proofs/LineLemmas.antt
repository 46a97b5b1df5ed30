-- Lemmas about what a line adds.
use Rattle.std.proofs.Common.{◌≡◌, ℕ, Bool, true, false, cond, List, [], ◌++◌, Option, Some, None, Result, Ok, Err, IfErr, OnOk, refl, sym, ap, ◌∙◌, append-nil}
use Rattle.std.specs.Option.{option_and_then}
use Rattle.ahci_port.specs.PortView.{PortView}
use Rattle.ahci_script.specs.Lines.{line_of}
use Rattle.ahci_script.specs.declared.line.ScriptCommand.{ScriptCommand}
use Rattle.ahci_script.specs.declared.line.Line.TheVariants as line
use Rattle.ahci_replay.specs.Commands.{is_in_place}
use Rattle.ahci_replay.specs.Transcript.{Grown, HasRun, IsCommandFault, IsLineFault, Telling, placed, placed_by}
use Rattle.ahci_replay.specs.declared.script_fault.ScriptFault.{ScriptFault}
use Rattle.ahci_replay.specs.declared.script_fault.ScriptFault.TheVariants.{Line, Read, Write, OutOfMemory}

-- a skipped line adds nothing
pub skip_grown : {telling : Telling} (number : ℕ) (port : Option PortView) (text old : List ℕ) → line_of text ≡ Some line.Skip → Grown telling number port text port old old
skip_grown number port text old is = record {
  spelled = line.Skip;
  is = ap (option_and_then (placed_by port)) is;
  added = [];
  ran = (refl, refl);
  grown = sym (append-nil old);
}

-- a line with a command is allowed where its command is
command_placed : (port : Option PortView) (text : List ℕ) (command : ScriptCommand) → line_of text ≡ Some (line.Run command)
    → placed port text ≡ cond (is_in_place port command) (Some (line.Run command)) None
command_placed port text command is = ap (option_and_then (placed_by port)) is

-- a command adds its answer
run_grown : {telling : Telling} (number : ℕ) (port port' : Option PortView) (text old new : List ℕ) (command : ScriptCommand) → line_of text ≡ Some (line.Run command)
    → is_in_place port command ≡ true → (added : List ℕ) × HasRun telling number text port command port' added × (new ≡ old ++ added) → Grown telling number port text port' old new
run_grown number port port' text old new command is may ran = record {
  spelled = line.Run command;
  is = command_placed port text command is ∙ ap (λ b. cond b (Some (line.Run command)) None) may;
  added = ran.0;
  ran = ran.1;
  grown = ran.2;
}

abbrev well : Unit {0} → Result (Unit {0}) ScriptFault
well x = Ok x

-- what went well was in place
in_place : (b : Bool) (x : Unit {0}) (fault : ScriptFault) → (b ≡ false → well x ≡ Err fault) → b ≡ true
in_place true x fault out = refl
in_place false x fault out = let told : well x ≡ Err fault = out refl in cc

-- the same of a result: where the command was out of place there is none
pub ran_grown : (telling : Telling) (number : ℕ) (result : Result (Unit {0}) ScriptFault) (fault : ScriptFault) (port port' : Option PortView) (text old new : List ℕ) (command : ScriptCommand)
    → line_of text ≡ Some (line.Run command) → (is_in_place port command ≡ false → result ≡ Err fault)
    → OnOk result ((added : List ℕ) × HasRun telling number text port command port' added × (new ≡ old ++ added)) → OnOk result (Grown telling number port text port' old new)
ran_grown telling number (Err e) fault port port' text old new command is told ran = ran
ran_grown telling number (Ok x) fault port port' text old new command is told ran =
    run_grown number port port' text old new command is (in_place (is_in_place port command) x fault told) ran

-- a fault of the command is one of the line
pub fault_of_line : (result : Result (Unit {0}) ScriptFault) (port : Option PortView) (text : List ℕ) (command : ScriptCommand) (n : ℕ)
    → line_of text ≡ Some (line.Run command) → IfErr result (IsCommandFault port command n) → IfErr result (IsLineFault port text n)
fault_of_line (Ok x) port text command n is fault = fault
fault_of_line (Err (Line k)) port text command n is fault =
    (fault.0, command_placed port text command is ∙ ap (λ b. cond b (Some (line.Run command)) None) fault.1)
fault_of_line (Err Read) port text command n is fault = fault
fault_of_line (Err Write) port text command n is fault = fault
fault_of_line (Err OutOfMemory) port text command n is fault = fault

-- a line with a command that isn't allowed there is refused as the command is
pub wrong_line : (result : Result (Unit {0}) ScriptFault) (fault : ScriptFault) (port : Option PortView) (text : List ℕ) (command : ScriptCommand)
    → line_of text ≡ Some (line.Run command) → (is_in_place port command ≡ false → result ≡ Err fault) → placed port text ≡ None → result ≡ Err fault
wrong_line result fault port text command is told none =
    told (out (is_in_place port command) (sym (command_placed port text command is) ∙ none))
  where
    out : (b : Bool) → cond b (Some (line.Run command)) None ≡ None → b ≡ false
    out true e = cc
    out false e = refl
