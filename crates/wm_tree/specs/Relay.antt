-- A sample module. Its update method `relay` accepts up to 300 cycles and counts its calls at address 8.
-- Without an argument it replies with the count. Else the first ten bytes of the argument name a
-- canister: it calls `relay` there with the other bytes and 500 cycles, and passes the reply on.
use Rattle.std.specs.Prelude.{ℕ, pos, List, [], ◌∷◌, ◌++◌, Some, None}
use Rattle.wm_tree.specs.declared.types.ValType.{ValType}
use Rattle.wm_tree.specs.declared.types.ValType.TheVariants.{I32, I64}
use Rattle.wm_tree.specs.declared.types.FuncType.{FuncType}
use Rattle.wm_tree.specs.declared.types.MemArg.{MemArg}
use Rattle.wm_tree.specs.declared.instr.Instr.{Instr}
use Rattle.wm_tree.specs.declared.instr.Instr.TheVariants as op
use Rattle.wm_tree.specs.declared.parts.ImportKind.TheVariants as import
use Rattle.wm_tree.specs.declared.parts.Import.{Import}
use Rattle.wm_tree.specs.declared.parts.ExportKind.TheVariants as export
use Rattle.wm_tree.specs.declared.parts.Export.{Export}
use Rattle.wm_tree.specs.declared.parts.Element.{Element}
use Rattle.wm_tree.specs.declared.parts.Segment.{Segment}
use Rattle.wm_tree.specs.declared.parts.Run.{Run}
use Rattle.wm_tree.specs.declared.parts.FuncCode.{FuncCode}
use Rattle.wm_tree.specs.declared.parts.Module.{Module}

-- ---- types and imports

abbrev pub func_type : List ValType → List ValType → FuncType
func_type params results = record { params = params; results = results }

-- functions name their types by the place in this list
abbrev pub types : List FuncType
types =
    func_type [] [] ∷
    func_type [] (I32 ∷ []) ∷
    func_type (I32 ∷ I32 ∷ I32 ∷ []) [] ∷
    func_type (I32 ∷ I32 ∷ []) [] ∷
    func_type (I32 ∷ I32 ∷ I32 ∷ I32 ∷ I32 ∷ I32 ∷ I32 ∷ I32 ∷ []) [] ∷
    func_type (I32 ∷ []) [] ∷
    func_type (I64 ∷ []) [] ∷
    func_type (I64 ∷ []) (I64 ∷ []) ∷
    []

-- a function of the module `ic0`
abbrev pub system_call : List ℕ → ℕ → Import
system_call name kind = record { «module» = 105 ∷ 99 ∷ 48 ∷ []; name = name; kind = import.Function kind }

-- functions 0 to 9, each name written as its bytes
abbrev pub imports : List Import
imports =
    -- msg_arg_data_size
    system_call (109 ∷ 115 ∷ 103 ∷ 95 ∷ 97 ∷ 114 ∷ 103 ∷ 95 ∷ 100 ∷ 97 ∷ 116 ∷ 97 ∷ 95 ∷ 115 ∷ 105 ∷ 122 ∷ 101 ∷ []) 1 ∷
    -- msg_arg_data_copy
    system_call (109 ∷ 115 ∷ 103 ∷ 95 ∷ 97 ∷ 114 ∷ 103 ∷ 95 ∷ 100 ∷ 97 ∷ 116 ∷ 97 ∷ 95 ∷ 99 ∷ 111 ∷ 112 ∷ 121 ∷ []) 2 ∷
    -- msg_reply_data_append
    system_call (109 ∷ 115 ∷ 103 ∷ 95 ∷ 114 ∷ 101 ∷ 112 ∷ 108 ∷ 121 ∷ 95 ∷ 100 ∷ 97 ∷ 116 ∷ 97 ∷ 95 ∷ 97 ∷ 112 ∷ 112 ∷ 101 ∷ 110 ∷ 100 ∷ []) 3 ∷
    -- msg_reply
    system_call (109 ∷ 115 ∷ 103 ∷ 95 ∷ 114 ∷ 101 ∷ 112 ∷ 108 ∷ 121 ∷ []) 0 ∷
    -- msg_reject
    system_call (109 ∷ 115 ∷ 103 ∷ 95 ∷ 114 ∷ 101 ∷ 106 ∷ 101 ∷ 99 ∷ 116 ∷ []) 3 ∷
    -- call_new
    system_call (99 ∷ 97 ∷ 108 ∷ 108 ∷ 95 ∷ 110 ∷ 101 ∷ 119 ∷ []) 4 ∷
    -- call_data_append
    system_call (99 ∷ 97 ∷ 108 ∷ 108 ∷ 95 ∷ 100 ∷ 97 ∷ 116 ∷ 97 ∷ 95 ∷ 97 ∷ 112 ∷ 112 ∷ 101 ∷ 110 ∷ 100 ∷ []) 3 ∷
    -- call_cycles_add
    system_call (99 ∷ 97 ∷ 108 ∷ 108 ∷ 95 ∷ 99 ∷ 121 ∷ 99 ∷ 108 ∷ 101 ∷ 115 ∷ 95 ∷ 97 ∷ 100 ∷ 100 ∷ []) 6 ∷
    -- call_perform
    system_call (99 ∷ 97 ∷ 108 ∷ 108 ∷ 95 ∷ 112 ∷ 101 ∷ 114 ∷ 102 ∷ 111 ∷ 114 ∷ 109 ∷ []) 1 ∷
    -- msg_cycles_accept
    system_call (109 ∷ 115 ∷ 103 ∷ 95 ∷ 99 ∷ 121 ∷ 99 ∷ 108 ∷ 101 ∷ 115 ∷ 95 ∷ 97 ∷ 99 ∷ 99 ∷ 101 ∷ 112 ∷ 116 ∷ []) 7 ∷
    []

-- ---- bodies

-- an `i64` at an address
abbrev pub whole : MemArg
whole = record { align = 3; offset = 0 }

-- accepts up to 300 cycles, counts the call, and tests whether the argument is empty
abbrev pub counts : List Instr
counts =
    op.I64Const (pos 300) ∷ op.Call 9 ∷ op.Drop ∷
    op.I32Const (pos 8) ∷ op.I32Const (pos 8) ∷ op.I64Load whole ∷ op.I64Const (pos 1) ∷ op.I64Add ∷ op.I64Store whole ∷
    op.Call 0 ∷ op.LocalTee 0 ∷ op.I32Eqz ∷ op.If None ∷
    []

-- replies with the count
abbrev pub replies : List Instr
replies =
    op.I32Const (pos 8) ∷ op.I32Const (pos 8) ∷ op.Call 2 ∷ op.Call 3 ∷
    op.Else ∷
    []

-- calls the canister that the argument names
abbrev pub passes_on : List Instr
passes_on =
    op.I32Const (pos 1024) ∷ op.I32Const (pos 0) ∷ op.LocalGet 0 ∷ op.Call 1 ∷
    op.I32Const (pos 1024) ∷ op.I32Const (pos 10) ∷ op.I32Const (pos 0) ∷ op.I32Const (pos 5) ∷
    op.I32Const (pos 0) ∷ op.I32Const (pos 0) ∷ op.I32Const (pos 1) ∷ op.I32Const (pos 0) ∷ op.Call 5 ∷
    op.I32Const (pos 1034) ∷ op.LocalGet 0 ∷ op.I32Const (pos 10) ∷ op.I32Sub ∷ op.Call 6 ∷
    op.I64Const (pos 500) ∷ op.Call 7 ∷
    op.Call 8 ∷ op.Drop ∷
    op.End ∷
    []

-- function 11, called with the reply: passes it on
abbrev pub returns_reply : List Instr
returns_reply =
    op.Call 0 ∷ op.LocalSet 0 ∷
    op.I32Const (pos 1024) ∷ op.I32Const (pos 0) ∷ op.LocalGet 0 ∷ op.Call 1 ∷
    op.I32Const (pos 1024) ∷ op.LocalGet 0 ∷ op.Call 2 ∷ op.Call 3 ∷
    []

-- function 12, called with a reject: rejects with `relay`
abbrev pub returns_reject : List Instr
returns_reject =
    op.I32Const (pos 0) ∷ op.I32Const (pos 5) ∷ op.Call 4 ∷
    []

abbrev pub func_code : List Run → List Instr → FuncCode
func_code locals body = record { locals = locals; body = body }

-- function 10; it has one local, the size of the argument
abbrev pub method : FuncCode
method = func_code (record { count = 1; kind = I32 } ∷ []) (counts ++ (replies ++ passes_on))

-- functions 10 to 12
abbrev pub codes : List FuncCode
codes =
    method ∷
    func_code [] returns_reply ∷
    func_code [] returns_reject ∷
    []

-- ---- the module

-- canister_update relay
abbrev pub exports : List Export
exports = record { name = 99 ∷ 97 ∷ 110 ∷ 105 ∷ 115 ∷ 116 ∷ 101 ∷ 114 ∷ 95 ∷ 117 ∷ 112 ∷ 100 ∷ 97 ∷ 116 ∷ 101 ∷ 32 ∷ 114 ∷ 101 ∷ 108 ∷ 97 ∷ 121 ∷ []; kind = export.Function 10 } ∷ []

abbrev pub elements : List Element
elements = record { table = 0; offset = op.I32Const (pos 0) ∷ []; functions = 11 ∷ 12 ∷ [] } ∷ []

-- relay
abbrev pub segments : List Segment
segments = record { memory = 0; offset = op.I32Const (pos 0) ∷ []; bytes = 114 ∷ 101 ∷ 108 ∷ 97 ∷ 121 ∷ [] } ∷ []

abbrev pub relay : Module
relay = record {
  types = types;
  imports = imports;
  functions = 0 ∷ 5 ∷ 5 ∷ [];
  tables = record { min = 2; max = Some 2 } ∷ [];
  memories = record { min = 1; max = None } ∷ [];
  globals = [];
  exports = exports;
  start = None;
  elements = elements;
  codes = codes;
  segments = segments;
}
