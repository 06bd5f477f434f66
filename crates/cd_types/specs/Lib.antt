pub mod FieldId
pub mod IsInside
pub mod References
pub mod IsOrdered
pub mod IsTable
pub mod FaultOf
pub mod Shape
pub mod PrimitiveCode
