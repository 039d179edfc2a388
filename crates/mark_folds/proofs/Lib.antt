pub mod FoldedDocuments
pub mod PassedOver
