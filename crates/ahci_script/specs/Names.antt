-- The names of commands.
use Rattle.std.specs.Prelude.{ℕ, List, Option, Some, None, codes, if◌then◌else◌}
use Rattle.std.specs.Option.{option_or}
use Rattle.std.specs.Str.{bytes_eq}
use Rattle.ahci_script.specs.declared.command_name.CommandName.{CommandName}
use Rattle.ahci_script.specs.declared.command_name.CommandName.TheVariants.{Accept, Ack, Collect, Disk, Fail, Flush, Identify, Journal, Raw, Read, Recover, Reg, Reissue, Serve, Show, Trim, Write}

-- the commands of requests
unfoldable pub request_name : List ℕ → Option CommandName
request_name name =
    if bytes_eq name (codes "write") then Some Write
    else if bytes_eq name (codes "read") then Some Read
    else if bytes_eq name (codes "raw") then Some Raw
    else if bytes_eq name (codes "collect") then Some Collect
    else if bytes_eq name (codes "recover") then Some Recover
    else if bytes_eq name (codes "reissue") then Some Reissue
    else None

-- those of the disk and the journal
unfoldable pub disk_name : List ℕ → Option CommandName
disk_name name =
    if bytes_eq name (codes "disk") then Some Disk
    else if bytes_eq name (codes "identify") then Some Identify
    else if bytes_eq name (codes "flush") then Some Flush
    else if bytes_eq name (codes "show") then Some Show
    else if bytes_eq name (codes "journal") then Some Journal
    else if bytes_eq name (codes "trim") then Some Trim
    else None

-- those of the device, and of the registers
unfoldable pub device_name : List ℕ → Option CommandName
device_name name =
    if bytes_eq name (codes "accept") then Some Accept
    else if bytes_eq name (codes "serve") then Some Serve
    else if bytes_eq name (codes "fail") then Some Fail
    else if bytes_eq name (codes "reg") then Some Reg
    else if bytes_eq name (codes "ack") then Some Ack
    else None

-- a command by its name, none where no command has it
abbrev pub name_of : List ℕ → Option CommandName
name_of name = option_or (request_name name) (option_or (disk_name name) (device_name name))
